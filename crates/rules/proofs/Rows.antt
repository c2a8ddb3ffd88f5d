-- What a list of refusals says by its rows: of each number in it, its condition.
use Prim.Native.Nat.{ℕ, ◌≤◌, ◌<◌}
use mathlib.Core.Bool.{Bool, true, false, cond, ◌&&◌, false≢true}
use mathlib.Core.List.{List, [], ◌∷◌}
use mathlib.Core.Path.{◌≡◌, refl}
use native.Mathlib.Omega.{arith}
use lib.Dec.{leb, ltb, eqb}
use borrow.Author.Tests.{eqb-true, eq-eqb, ne_eqb, leb-true, ltb-true, not-false}
use Rattle.octets.specs.Refusal.{Refusal, ◌when◌, refusal, Rising}
use Rattle.octets.proofs.Search.{and_left, and_right, or_left, or_right}
use Rattle.record.specs.Line.{Line}
use Rattle.rules.specs.Call.{Event}
use Rattle.rules.specs.Refusals.{has_no_room, is_allowed, is_held_full, is_malformed, is_out_of_range, is_spi_taken, refusals_of}

-- the condition of a number, false where it does not stand in the list
unfoldable pub condition_of : ℕ → List Refusal → Bool
condition_of n [] = false
condition_of n ((k when b) ∷ rs) = cond (eqb k n) b (condition_of n rs)

-- the numbers rise from above m to 13 at most
unfoldable pub rises : ℕ → List Refusal → Bool
rises m [] = leb m 13
rises m ((n when b) ∷ rs) = ltb m n && rises n rs

pub rising : (m : ℕ) (rs : List Refusal) → rises m rs ≡ true → Rising m rs
unfolding rises
rising m [] r = tt
rising m ((n when b) ∷ rs) r = (ltb-true m n (and_left (ltb m n) (rises n rs) r), rising n rs (and_right (ltb m n) (rises n rs) r))

pub within : (m : ℕ) (rs : List Refusal) → rises m rs ≡ true → (m ≤ 13) × (refusal rs ≤ 13)
unfolding rises refusal
within m [] r = (leb-true m 13 r, omega arith)
within m ((n when b) ∷ rs) r =
    go b (ltb-true m n (and_left (ltb m n) (rises n rs) r)) (within n rs (and_right (ltb m n) (rises n rs) r))
  where
    go : (t : Bool) → m < n → (n ≤ 13) × (refusal rs ≤ 13) → (m ≤ 13) × (cond t n (refusal rs) ≤ 13)
    go true low rest = (omega arith, rest.0)
    go false low rest = (omega arith, rest.1)

-- where a number's condition holds, it or a lower one is given
pub holds_given : (m : ℕ) (rs : List Refusal) → Rising m rs → (n : ℕ) → condition_of n rs ≡ true → (m < refusal rs) × (refusal rs ≤ n)
unfolding condition_of refusal
holds_given m [] r n h = absurd (false≢true h)
holds_given m ((k when true) ∷ rs) r n h = (r.0, go (eqb k n) refl h (holds_given k rs r.1 n))
  where
    go : (t : Bool) → eqb k n ≡ t → cond t true (condition_of n rs) ≡ true → (condition_of n rs ≡ true → (k < refusal rs) × (refusal rs ≤ n)) → k ≤ n
    go true e h rest = omega (arith, eqb-true k n e)
    go false e h rest = let low = rest h in omega arith
holds_given m ((k when false) ∷ rs) r n h = go (eqb k n) h (holds_given k rs r.1 n)
  where
    go : (t : Bool) → cond t false (condition_of n rs) ≡ true → (condition_of n rs ≡ true → (k < refusal rs) × (refusal rs ≤ n)) → (m < refusal rs) × (refusal rs ≤ n)
    go true h rest = absurd (false≢true h)
    go false h rest = let low = rest h in (omega (arith, r.0), low.1)

-- where a number is given, its condition holds
pub given_holds : (m : ℕ) (rs : List Refusal) → Rising m rs → (n : ℕ) → 1 ≤ n → refusal rs ≡ n → condition_of n rs ≡ true
unfolding condition_of refusal
given_holds m [] r n some e = absurd (omega arith)
given_holds m ((k when true) ∷ rs) r n some e = rw (eq-eqb k n e)
given_holds m ((k when false) ∷ rs) r n some e =
    let rest = given_holds k rs r.1 n some e in
    let low = holds_given k rs r.1 n rest in
    rw (ne_eqb k n (λ q. omega arith)) rest

-- where none is given, no condition holds
pub none_holds : (m : ℕ) (rs : List Refusal) → Rising m rs → refusal rs ≡ 0 → (n : ℕ) → condition_of n rs ≡ false
none_holds m rs r e n = go (condition_of n rs) refl
  where
    go : (t : Bool) → condition_of n rs ≡ t → t ≡ false
    go true h = let low = holds_given m rs r n h in absurd (omega arith)
    go false h = refl

-- every condition fails
abbrev pub AllFail : List Refusal → Type 0
AllFail [] = Unit {0}
AllFail ((n when b) ∷ rs) = (b ≡ false) × AllFail rs

pub none_given : (rs : List Refusal) → AllFail rs → refusal rs ≡ 0
unfolding refusal
none_given [] f = refl
none_given ((n when b) ∷ rs) f = rw f.0 (none_given rs f.1)

-- an event that isn't refused passes every test
pub record Passes (e : Event) (out : Bool) (x : Line) : Type 0 where
  pub in_time : out ≡ false
  pub in_range_lem : is_out_of_range e x ≡ false
  pub well_formed_lem : is_malformed e ≡ false
  pub allowed : is_allowed e x ≡ true
  pub new_spi : is_spi_taken e x ≡ false
  pub child_room : has_no_room e x ≡ false
  pub hold_room : is_held_full e x ≡ false

pub passes : (e : Event) (out : Bool) (x : Line) → refusal (refusals_of e out x) ≡ 0 → Passes e out x
unfolding refusals_of rises condition_of
passes e out x q =
    let fails = none_holds 7 (refusals_of e out x) (rising 7 (refusals_of e out x) refl) q in
    record {
      in_time = or_left out (is_out_of_range e x) (fails 8);
      in_range_lem = or_right out (is_out_of_range e x) (fails 8);
      well_formed_lem = fails 9;
      allowed = not-false (is_allowed e x) (fails 10);
      new_spi = fails 11;
      child_room = fails 12;
      hold_room = fails 13;
    }
