-- Where the lines of a text end, and where a node name stands behind the first.
use Rattle.std.proofs.Common.{◌≡◌, ℕ, ◌+◌, ◌-◌, ◌<◌, ◌≢◌, true, false, List, ◌∷◌, ◌++◌, length, get_or, drop, refl, ap, sym, ◌∙◌, arith, length-append}
use Rattle.std.proofs.Math.ListN.{get_or-append}
use Rattle.std.proofs.Math.Seq.{get_or-append_seam, drop-append_seam}
use Rattle.std.proofs.lemmas.Bool.{ne_eqb}
use borrow.Author.Tests.{eq-eqb}
use mathlib.Core.Bool.{true≢false}
use native.Mathlib.Nat.{zero-add}
use Rattle.octets.specs.Part.{octet_is}
use Rattle.octets.specs.Search.{least}
use Rattle.octets.proofs.Search.{least_bound, least_found, least_passes, lower}
use Rattle.entry.specs.Entry.{before_name}
use Rattle.entry.specs.Pieces.{newline_code}
use Rattle.config.specs.Lines.{line_end}
use Rattle.config.specs.Settings.{name_place}

-- a line ends at the first newline from a place on
pub line_end_at : (l : List ℕ) (at n : ℕ) → ((k : ℕ) → k < n → octet_is l at newline_code k ≡ false) → octet_is l at newline_code n ≡ true → n < length l - at
    → line_end l at ≡ at + n
unfolding line_end
line_end_at l at n before found room = ap (λ (k : ℕ). at + k) (least_found (length l - at) (octet_is l at newline_code) n none_before found room)
  where
    none_before : least n (octet_is l at newline_code) ≡ n
    none_before =
        lower (least n (octet_is l at newline_code)) n
        (λ h. absurd (true≢false (sym (least_passes n (octet_is l at newline_code) h) ∙ before _ h)))
        (λ h. let bound = least_bound n (octet_is l at newline_code) in omega arith)

module _ (h w rest : List ℕ) (free : (k : ℕ) → k < length h → get_or h k 0 ≢ newline_code) (long : length w ≡ before_name) where
  sized : length (h ++ newline_code ∷ w) ≡ length h + 1 + before_name
  sized = omega (arith, length-append h (newline_code ∷ w), long)

  in_first : (k : ℕ) → k < length h → octet_is (h ++ newline_code ∷ w ++ rest) 0 newline_code k ≡ false
  unfolding octet_is
  in_first k less =
      rw (zero-add k, get_or-append (h ++ newline_code ∷ w) rest 0 k (omega (arith, sized)), get_or-append h (newline_code ∷ w) 0 k less)
      (ne_eqb (get_or h k 0) newline_code (free k less))

  at_seam : octet_is (h ++ newline_code ∷ w ++ rest) 0 newline_code (length h) ≡ true
  unfolding octet_is
  at_seam =
      rw (zero-add (length h), get_or-append (h ++ newline_code ∷ w) rest 0 (length h) (omega (arith, sized)), get_or-append_seam h newline_code w 0)
      (eq-eqb newline_code newline_code refl)

  room : length h < length (h ++ newline_code ∷ w ++ rest) - 0
  room = omega (arith, sized, length-append (h ++ newline_code ∷ w) rest)

  place : name_place (h ++ newline_code ∷ w ++ rest) ≡ length (h ++ newline_code ∷ w)
  unfolding name_place
  place = omega (arith, line_end_at (h ++ newline_code ∷ w ++ rest) 0 (length h) in_first at_seam room, sized)

  pub name_left : drop (name_place (h ++ newline_code ∷ w ++ rest)) (h ++ newline_code ∷ w ++ rest) ≡ rest
  name_left = rw place (drop-append_seam (h ++ newline_code ∷ w) rest)
