-- A flag for each number of a pair: set where a record passed has the pair.
use Prim.Native.Nat.{ℕ, ◌+◌, ◌≤◌, ◌<◌}
use mathlib.Core.Bool.{Bool, true, false, not, false≢true, not-not}
use mathlib.Core.List.{List}
use mathlib.Core.Path.{◌≡◌, refl, sym, ap, ◌∙◌}
use native.Mathlib.Numerals.{add-one}
use native.Mathlib.Omega.{arith}
use lib.ListN.{get_or, set, replicate, get_or-replicate, length-set}
use lib.Seq.{get_or-set_same, get_or-set_other}
use borrow.Author.Tests.{eq-eqb, ne_eqb}
use Rattle.octets.specs.Digits.{field}
use Rattle.octets.specs.Part.{zeros_at}
use Rattle.octets.specs.Search.{all}
use Rattle.octets.proofs.Search.{all_fails, and_false, and_last, either, never_passes}
use Rattle.record.specs.Octets.{record_length}
use Rattle.record.specs.Sound.{is_record, most_pairs}
use Rattle.sound.specs.Seen.{Passes, Seen}
use Rattle.table.specs.Table.{has_pair, lacks_pair, pair_at, pair_once, slot, slot_sound}
use Rattle.table.proofs.Views.{own_pair, own_zeros, paired, pairless, sound_pair}

pub none_seen : (l : List ℕ) → Seen l 0 (replicate 65 false)
unfolding all
none_seen l = record { sized = refl; flag = λ p from to. get_or-replicate 65 p false false (omega arith) }

-- where the next record has the pair p, and where it has another one
module _ (l : List ℕ) (i p : ℕ) where
  has : pair_at l i ≡ p → all (i + 1) (lacks_pair l p) ≡ false
  unfolding lacks_pair has_pair
  has e = all_fails (i + 1) (lacks_pair l p) i (omega arith) (ap not (eq-eqb (pair_at l i) p e))

  lacks : (pair_at l i ≡ p → ⊥) → all (i + 1) (lacks_pair l p) ≡ all i (lacks_pair l p)
  unfolding all lacks_pair has_pair
  lacks h = rw (add-one, ne_eqb (pair_at l i) p h) (and_last (all i (lacks_pair l p)))

module _ (l : List ℕ) (i : ℕ) (s : List ℕ) (is : s ≡ slot l i) {seen : List Bool} (before : Seen l i seen) (pair : ℕ) (reads : pair ≡ field s 0 1) where
  own : pair ≡ pair_at l i
  own = reads ∙ ap (λ (t : List ℕ). field t 0 1) is ∙ own_pair l i

  -- a free record flags no pair
  pub free_passes : pair ≡ 0 → (r : Bool) → r ≡ zeros_at s 0 record_length → Passes l i r seen
  unfolding pair_once
  free_passes e r zeros = record {
    tells = zeros ∙ ap (λ (t : List ℕ). zeros_at t 0 record_length) is ∙ own_zeros l i ∙ pairless l i (sym own ∙ e) ∙ sym (rw (sym own ∙ e) (and_last (slot_sound l i)));
    flags = λ _. record {
      sized = before.sized;
      flag = λ p from to. before.flag p from to ∙ ap not (sym (lacks l i p (λ q. omega (arith, own))));
    };
  }

  -- a record with a number above that of the last pair is not sound
  pub high_fails : most_pairs < pair → Passes l i false seen
  high_fails h = record {
    tells = sym (rw (never_passes (slot_sound l i) (λ e. omega (arith, own, sound_pair l i e))));
    flags = λ e. absurd (false≢true e);
  }

  module _ (used : pair ≡ 0 → ⊥) (low : pair ≤ most_pairs) where
    -- the flag of a used record's pair tells whether the pair stands twice
    flag_tells : not (get_or seen pair false) ≡ pair_once l i
    unfolding pair_once
    flag_tells = rw (sym own, ne_eqb pair 0 used, before.flag pair (omega arith) low) (not-not (all i (lacks_pair l pair)))

    pub twice_fails : get_or seen pair false ≡ true → Passes l i false seen
    twice_fails e = record {
      tells = sym (and_false (slot_sound l i) (pair_once l i) (sym flag_tells ∙ ap not e));
      flags = λ q. absurd (false≢true q);
    }

    pub used_passes : get_or seen pair false ≡ false → (r : Bool) → r ≡ is_record s → Passes l i r (set seen pair true)
    used_passes e r sound = record {
      tells = sound ∙ paired l i (λ z. used (own ∙ z)) s is ∙ sym (rw (sym flag_tells ∙ ap not e) (and_last (slot_sound l i)));
      flags = λ _. record {
        sized = length-set seen pair true ∙ before.sized;
        flag = λ p from to. either p pair
            (λ z. rw z (get_or-set_same seen pair true false (omega arith) ∙ ap not (sym (has l i pair (sym own)))))
            (λ apart. get_or-set_other seen pair p true false apart ∙ before.flag p from to ∙ ap not (sym (lacks l i p (λ z. apart (sym (own ∙ z))))));
      };
    }
