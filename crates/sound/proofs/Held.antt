-- Addresses that are told apart by their keys.
use Rattle.std.specs.Prelude.{Option, None, Some}
use Prim.Native.Nat.{ℕ, ◌+◌, ◌*◌, ◌≤◌, ◌<◌}
use mathlib.Core.Bool.{true, false, not}
use mathlib.Core.List.{List, []}
use mathlib.Core.Path.{◌≡◌, refl, sym, ap, ◌∙◌}
use native.Mathlib.Omega.{arith}
use lib.Dec.{leb}
use lib.ListN.{length}
use borrow.Author.Tests.{leb-true, ne_eqb}
use Rattle.octets.specs.Digits.{field}
use Rattle.octets.specs.Row.{row}
use Rattle.octets.specs.Search.{any_of, distinct}
use Rattle.differ.proofs.Apart.{AllDiffer}
use Rattle.octets.proofs.Rows.{map_row, row_distinct, row_fails}
use Rattle.octets.proofs.Search.{all_each, and_true, lower, never_passes, or_other}
use Rattle.address.specs.Address.{address_in, same_address, stands}
use Rattle.address.specs.declared.Address.{Address}
use Rattle.addresses.specs.Addresses.{address_from, is_address}
use Rattle.addresses.specs.Keys.{key_at}
use Rattle.addresses.proofs.Keys.{alike_key}
use Rattle.holds.specs.Holds.{different, has_address, hold_from, hold_in, holds_from}
use Rattle.holds.specs.Keys.{KeysOf}
use Rattle.phase.specs.Chosen.{chosen}
use Rattle.phase.specs.Phase.{phase_from}
use Rattle.phase.specs.Stage.{is_in, stage_number, stage_of}
use Rattle.phase.specs.Stage as Stage
use Rattle.phase.proofs.Stood.{chosen_at, none_at, stage_at}
use Rattle.record.specs.Branch.{apart, held_in, Comparable}
use Rattle.record.specs.Sound.{chosen_free}

module _ (l : List ℕ) (m : ℕ) where
  -- the address of the hold with a number
  abbrev held : ℕ → Address
  held i = address_from l (27 + 22 * i)

  held_row : held_in l m ≡ row held 0 m
  unfolding holds_from address_in hold_in hold_from
  held_row = map_row address_in (hold_in l 27) 0 m

  module _ (fits : 243 ≤ length l) (can : Comparable l m) where
    -- where a hold stands there is an address
    there : (i : ℕ) → i < m → is_address l (27 + 22 * i) ≡ true
    unfolding has_address
    there i h = all_each m (has_address l 27) can.addressed i h

    within : (i : ℕ) → i < m → 27 + 22 * i + 17 ≤ length l
    within i h = omega (arith, can.few)

    module _ (other : ℕ) (w : List ℕ) (are : KeysOf l 27 m other w) (differ : AllDiffer w) where
      once : different (held_in l m) ≡ true
      unfolding different
      once = rw held_row
          (row_distinct held same_address 0 m
          (λ i j before last.
          never_passes (same_address (held i) (held j))
          (λ e.
          let i-in : i < m = omega arith in
          let j-in : j < m = omega arith in
          differ i j before (omega (arith, can.few)) (are.held i i-in ∙ alike_key l (27 + 22 * i) (27 + 22 * j) (within i i-in) (within j j-in) (there i i-in) (there j j-in) e ∙ sym (are.held j j-in)))))

      -- a chosen address has the last key
      free : (3 ≤ field l 5 1 → other ≡ key_at l 6) → chosen_free (chosen (phase_from l 5)) (held_in l m) ≡ true
      unfolding chosen_free stands is_in
      free key = lower (field l 5 1) 3 (λ early. rw (none_at l 5 early)) (λ late. rw (chosen_at l 5 can.phased late).0 (ap not (nowhere late)))
        where
          nowhere : 3 ≤ field l 5 1 → any_of (same_address (address_from l 6)) (held_in l m) ≡ false
          nowhere late =
              let busy : is_in Stage.idle (phase_from l 5) ≡ false = ne_eqb (stage_number (stage_of (phase_from l 5))) 0 (λ e. omega (arith, stage_at l 5 can.phased, e)) in
              let few : m ≤ 7 = leb-true m 7 (or_other (is_in Stage.idle (phase_from l 5)) (leb m 7) can.room busy) in
              rw held_row
              (row_fails held (same_address (address_from l 6)) 0 m
              (λ j from last.
              never_passes (same_address (address_from l 6) (held j))
              (λ e.
              let j-in : j < m = omega arith in
              differ j 7 (omega arith) (omega arith)
              (are.held j j-in ∙ sym (alike_key l 6 (27 + 22 * j) (omega arith) (within j j-in) (chosen_at l 5 can.phased late).1 (there j j-in) e) ∙ sym (are.last (omega arith) ∙ key late)))))

      pub told_apart : (3 ≤ field l 5 1 → other ≡ key_at l 6) → true ≡ apart l m
      unfolding apart
      told_apart key = sym (and_true (different (held_in l m)) (chosen_free (chosen (phase_from l 5)) (held_in l m)) once (free key))

  -- no hold
  pub none_held : m ≡ 0 → true ≡ apart l m
  unfolding apart different distinct chosen_free holds_from row stands any_of
  none_held e = rw e (go (chosen (phase_from l 5)))
    where
      go : (a : Option Address) → true ≡ chosen_free a []
      go None = refl
      go (Some a) = refl

  -- compared one by one
  pub held_twice : different (held_in l m) ≡ false → false ≡ apart l m
  unfolding apart
  held_twice e = sym (rw e)

  pub by_chosen : different (held_in l m) ≡ true → chosen_free (chosen (phase_from l 5)) (held_in l m) ≡ apart l m
  unfolding apart
  by_chosen e = sym (rw e)
