-- All names of one form are of one length, since a code has three digits.
use Prim.Native.Nat.{ℕ}
use mathlib.Core.Path.{◌≡◌, refl}
use lib.ListN.{length}
use Rattle.octets.specs.Digits.{digits}
use Rattle.text.specs.Text.{text, digit_text}
use Rattle.network.specs.Name.{operator_name, visited_name}
use Rattle.network.specs.declared.Plmn.{Plmn}

pub operator_length : (plmn : Plmn) → length (operator_name plmn) ≡ 43
unfolding operator_name text digit_text digits
operator_length plmn = refl

pub visited_length : (mcc : ℕ) → length (visited_name mcc) ≡ 52
unfolding visited_name text digit_text digits
visited_length mcc = refl
