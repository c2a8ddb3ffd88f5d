-- When a response is written, how long it is, and what the buffer holds afterwards.
use Prim.Native.Nat.{ℕ, ◌+◌, ◌≤◌}
use mathlib.Core.Bool.{Bool, true, false, cond, not, ◌||◌}
use mathlib.Core.List.{List, [], ◌∷◌}
use mathlib.Core.Path.{◌≡◌, refl}
use native.Mathlib.Omega.{arith}
use lib.Dec.{ltb}
use lib.ListN.{length, length-append}
use borrow.Author.Tests.{le-ltb, ltb-false, not-false}
use Rattle.octets.specs.Digits.{be, digits}
use Rattle.octets.specs.Refusal.{◌when◌, refusal}
use Rattle.octets.proofs.Refusals.{refusal_step}
use Rattle.octets.proofs.Search.{or_left, or_right}
use Rattle.parameters.specs.Parameters.{well_formed}
use Rattle.response.specs.Response.{header, block, response, lent_out_of_range, out_of_range, write_refusal}

pub length_block : (l : List ℕ) → length (block l) ≡ 2 + length l
unfolding block be digits
length_block l = length-append (be 2 (length l)) l

pub length_header : (c i n m : ℕ) → length (header c i n m) ≡ 14
unfolding header be digits
length_header c i n m = refl

pub length_response : (i : ℕ) (p n : List ℕ) → length (response i p n) ≡ 18 + length p + length n
unfolding response
length_response i p n =
    let h = length_header 2 i (18 + length p + length n) 2 in
    simp (length-append, length_block, h) (omega arith)

-- AN-parameters and NAS in their ranges
pub record InRange (p n : List ℕ) : Type 0 where
  pub parameters_short : length p ≤ 1024
  pub nas_some : 1 ≤ length n
  pub nas_short : length n ≤ 2048

-- what an accepted call was lent
pub record Accepted (i : ℕ) (p n : List ℕ) (room : ℕ) : Type 0 where
  pub enough : 3090 ≤ room
  pub octet : i ≤ 255
  pub fits : InRange p n
  pub ends : well_formed p ≡ true

module _ (p n : List ℕ) where
  pub in_range_lem : lent_out_of_range p n ≡ false → InRange p n
  unfolding lent_out_of_range
  in_range_lem e =
      let two = or_left (ltb 1024 (length p) || ltb (length n) 1) (ltb 2048 (length n)) e in
      record {
        parameters_short = ltb-false _ _ (or_left (ltb 1024 (length p)) (ltb (length n) 1) two);
        nas_some = ltb-false _ _ (or_right (ltb 1024 (length p)) (ltb (length n) 1) two);
        nas_short = ltb-false _ _ (or_right (ltb 1024 (length p) || ltb (length n) 1) (ltb 2048 (length n)) e);
      }

  pub not_out : InRange p n → lent_out_of_range p n ≡ false
  unfolding lent_out_of_range
  not_out fits = simp (le-ltb 1024 (length p) fits.parameters_short, le-ltb (length n) 1 fits.nas_some, le-ltb 2048 (length n) fits.nas_short)

module _ (i : ℕ) (p n : List ℕ) (room : ℕ) where
  -- what is in range is refused by its AN-parameters alone
  pub by_parameters : 3090 ≤ room → i ≤ 255 → lent_out_of_range p n ≡ false → {b : Bool} → well_formed p ≡ b → cond (not b) 9 0 ≡ write_refusal i p n room
  unfolding write_refusal refusal out_of_range
  by_parameters enough octet e f = simp (le-ltb room 3090 enough, le-ltb 255 i octet, e, f)

  pub accepted : write_refusal i p n room ≡ 0 → Accepted i p n room
  unfolding write_refusal out_of_range
  accepted e =
      let first = refusal_step 2 (ltb room 3090) ((8 when out_of_range i p n) ∷ (9 when not (well_formed p)) ∷ []) e in
      let second = refusal_step 7 (out_of_range i p n) ((9 when not (well_formed p)) ∷ []) first.1 in
      let third = refusal_step 8 (not (well_formed p)) [] second.1 in
      record {
        enough = ltb-false room 3090 first.0;
        octet = ltb-false 255 i (or_left (ltb 255 i) (lent_out_of_range p n) second.0);
        fits = in_range_lem p n (or_right (ltb 255 i) (lent_out_of_range p n) second.0);
        ends = not-false (well_formed p) third.0;
      }

  pub response_fits : write_refusal i p n room ≡ 0 → length (response i p n) ≤ room
  response_fits e =
      let a = accepted e in
      rw (length_response i p n) (omega arith)
