-- Octets that stand at a place of a list, with the rest of it behind them.
use Prim.Native.Nat.{ℕ, ◌+◌, ◌^◌, ◌<◌}
use mathlib.Core.Bool.{true}
use mathlib.Core.List.{List, [], ◌++◌, append_assoc, append-nil}
use mathlib.Core.Path.{◌≡◌, sym, ap, ◌∙◌}
use lib.ListN.{length, take, drop, take-append-drop}
use lib.Seq.{take_at, drop_at, drop-drop}
use Rattle.octets.specs.Digits.{be, field, number}
use Rattle.octets.specs.Part.{part, zeros, same, zeros_at}
use Rattle.octets.proofs.Digits.{length_digits, number_digits}
use Rattle.octets.proofs.Parts.{equal_same, length_zeros}

-- the octets at a place are a, and r stands behind them
pub record Stands (l : List ℕ) (at : ℕ) (a r : List ℕ) : Type 0 where
  pub stands : drop at l ≡ a ++ r

-- all of a list stands at its start
pub whole : (l : List ℕ) → Stands l 0 l []
whole l = record { stands = sym (append-nil l) }

pub from_part : (l : List ℕ) (at n : ℕ) (a : List ℕ) → part l at n ≡ a → Stands l at a (drop n (drop at l))
unfolding part
from_part l at n a e = record {
  stands = sym (take-append-drop n (drop at l)) ∙ ap (λ (x : List ℕ). x ++ drop n (drop at l)) e;
}

module _ {l : List ℕ} {at : ℕ} {r : List ℕ} where
  -- the first of two runs
  pub before : (a b : List ℕ) → Stands l at (a ++ b) r → Stands l at a (b ++ r)
  before a b e = record { stands = e.stands ∙ append_assoc a b r }

  -- the second of two runs
  pub behind : (a b : List ℕ) (n : ℕ) → length a ≡ n → Stands l at (a ++ b) r → Stands l (at + n) b r
  behind a b n h e = record {
    stands = sym (drop-drop n at l) ∙ ap (drop n) (e.stands ∙ append_assoc a b r) ∙ drop_at a (b ++ r) n h;
  }

  pub to_part : (a : List ℕ) (n : ℕ) → length a ≡ n → Stands l at a r → part l at n ≡ a
  unfolding part
  to_part a n h e = ap (take n) e.stands ∙ take_at a r n h

  -- a number stands there
  pub says : (w x : ℕ) → x < 256 ^ w → Stands l at (be w x) r → field l at w ≡ x
  unfolding field be
  says w x h e = ap (number 256) (to_part (be w x) w (length_digits 256 w x) e) ∙ number_digits 256 w x h

  pub zeros_stand : (n : ℕ) → Stands l at (zeros n) r → zeros_at l at n ≡ true
  unfolding zeros_at
  zeros_stand n e = ap (λ (y : List ℕ). same y (zeros n)) (to_part (zeros n) n (length_zeros n) e) ∙ equal_same (zeros n)
