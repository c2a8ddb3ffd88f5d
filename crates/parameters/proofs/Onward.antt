-- Reading on from the start of a block, place by place, gives what the definition on the list gives.
use Prim.Native.Nat.{ℕ, zero, suc, ◌+◌, ◌≤◌, ◌<◌}
use mathlib.Core.Bool.{Bool, true, false, cond}
use mathlib.Core.List.{List, [], ◌∷◌, ◌++◌, map}
use mathlib.Core.Path.{◌≡◌, refl, ap, ◌∙◌}
use native.Mathlib.Numerals.{add-one}
use native.Mathlib.Omega.{arith}
use Rattle.std.specs.Prelude.{Option, None, Some, Result, Ok}
use lib.Dec.{leb}
use lib.ListN.{length, drop, length-drop, drop_of_length-le}
use lib.Seq.{drop-drop}
use borrow.Author.Tests.{le-leb, lt-leb, leb-true, leb-false}
use Rattle.octets.specs.Part.{part}
use Rattle.parameters.specs.Parameters.{overrun, size, whole_at, parameter_at, well_formed, well_formed_in}
use Rattle.parameters.specs.Reading.{Reading, an_parameters, an_parameters_in, behind, broken, ending, finished, is_whole, parameter, place_after, reading_of, readings, readings_from}
use Rattle.parameters.specs.declared.Parameter.{Parameter}
use Rattle.parameters.specs.declared.Broken.{Broken}
use Rattle.parameters.proofs.Walk.{cut, ends, fits, no_room, no_value, none_left, one, overruns, passes, two}

-- at most n AN-parameters of a list, and then the last reading
abbrev in_all : ℕ → List ℕ → List Reading
in_all n l = map parameter (an_parameters_in n l) ++ (cond (well_formed_in n l) finished broken ∷ [])

-- no AN-parameter is in an empty list
empty_none : (n : ℕ) → an_parameters_in n [] ≡ []
unfolding an_parameters_in
empty_none zero = refl
empty_none (suc n) = refl

module _ (l : List ℕ) (at : ℕ) where
  -- the AN-parameters from a place on: a whole one and those behind it, none where it does not fit
  whole_first : (n : ℕ) → at + 2 + size l at ≤ length l
      → map parameter (an_parameters_in (suc n) (drop at l)) ≡ reading_of l (Ok (Some (whole_at l at))) ∷ map parameter (an_parameters_in n (drop (at + 2 + size l at) l))
  unfolding an_parameters_in part reading_of
  whole_first n h = rw (two l at (omega arith), drop-drop (size l at) (at + 2) l, le-leb (size l at) (length (drop (at + 2) l)) (rw length-drop (omega arith)))

  overrun_none : (n : ℕ) → at + 2 ≤ length l → length l < at + 2 + size l at → an_parameters_in (suc n) (drop at l) ≡ []
  unfolding an_parameters_in
  overrun_none n h k = rw (two l at h, lt-leb (size l at) (length (drop (at + 2) l)) (rw length-drop (omega arith)))

  cut_none : (n : ℕ) → at + 1 ≡ length l → an_parameters_in (suc n) (drop at l) ≡ []
  unfolding an_parameters_in
  cut_none n e = rw (one l at e)

  -- reading on behind a whole one, and stopping at anything else
  goes : (n : ℕ) (p : Result (Option Parameter) Broken) → p ≡ parameter_at l at → is_whole p ≡ true → readings_from (suc n) l at ≡ reading_of l p ∷ readings_from n l (behind at p)
  unfolding readings_from place_after
  goes n p e on = rw (← e, on)

  stops : (n : ℕ) (p : Result (Option Parameter) Broken) → p ≡ parameter_at l at → is_whole p ≡ false → readings_from (suc n) l at ≡ reading_of l p ∷ []
  unfolding readings_from
  stops n p e off = rw (← e, off)

  at_end : (n : ℕ) → at ≡ length l → readings_from (suc n) l at ≡ in_all n (drop at l)
  unfolding reading_of is_whole
  at_end n e =
      let past : length l ≤ at = omega arith in
      rw (drop_of_length-le l past, empty_none n, none_left n) (stops n (Ok None) (ends l at e) refl)

  at_broken : (n : ℕ) → overrun ≡ parameter_at l at → an_parameters_in (suc n) (drop at l) ≡ [] → well_formed_in (suc n) (drop at l) ≡ false
      → readings_from (suc (suc n)) l at ≡ in_all (suc n) (drop at l)
  unfolding reading_of is_whole
  at_broken n e none bad = rw (none, bad) (stops (suc n) overrun e refl)

  module _ (other : at ≡ length l → ⊥) where
    at_whole : (n : ℕ) → at + 2 + size l at ≤ length l → readings_from (suc n) l (at + 2 + size l at) ≡ in_all n (drop (at + 2 + size l at) l)
        → readings_from (suc (suc n)) l at ≡ in_all (suc n) (drop at l)
    unfolding is_whole behind
    at_whole n h rest =
        rw (whole_first n h, passes l at n h)
        (goes (suc n) (Ok (Some (whole_at l at))) (fits l at other h) refl ∙ ap (λ (rs : List Reading). reading_of l (Ok (Some (whole_at l at))) ∷ rs) rest)

-- reading on from any place gives the AN-parameters from there, and the end
from_place : (n : ℕ) (l : List ℕ) (at : ℕ) → at ≤ length l → length l ≤ at + n → readings_from (suc n) l at ≡ in_all n (drop at l)
from_place zero l at h k = at_end l at zero (omega arith)
from_place (suc n) l at h k = go (leb (length l) at) refl (leb (at + 2) (length l)) refl (leb (at + 2 + size l at) (length l)) refl
    (λ fit. from_place n l (at + 2 + size l at) fit (omega arith))
  where
    go : (e : Bool) → leb (length l) at ≡ e → (t : Bool) → leb (at + 2) (length l) ≡ t → (u : Bool) → leb (at + 2 + size l at) (length l) ≡ u
        → (at + 2 + size l at ≤ length l → readings_from (suc n) l (at + 2 + size l at) ≡ in_all n (drop (at + 2 + size l at) l))
        → readings_from (suc (suc n)) l at ≡ in_all (suc n) (drop at l)
    go true e t p u q on = at_end l at (suc n) (omega (arith, leb-true))
    go false e true p true q on = at_whole l at (λ z. omega (arith, leb-false)) n (leb-true _ _ q) (on (leb-true _ _ q))
    go false e true p false q on =
        at_broken l at n (no_value l at (λ z. omega (arith, leb-false)) (leb-true _ _ p) (leb-false _ _ q)) (overrun_none l at n (leb-true _ _ p) (leb-false _ _ q)) (overruns l at n (leb-true _ _ p) (leb-false _ _ q))
    go false e false p u q on =
        let alone : at + 1 ≡ length l = omega (arith, leb-false) in
        at_broken l at n (no_room l at (λ z. omega arith) (leb-false _ _ p)) (cut_none l at n alone) (cut l at n alone)

pub reads_on : (l : List ℕ) → readings l ≡ map parameter (an_parameters l) ++ (ending l ∷ [])
unfolding readings an_parameters ending well_formed
reads_on l = rw (add-one (length l)) (from_place (length l) l 0 (omega arith) (omega arith))
