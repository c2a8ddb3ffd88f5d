-- `sound::is_sound` meets its contract. The loop's invariant: what is left begins where the next record does, the records passed are free or
-- sound, and their pairs stand once and are flagged.
use Rattle.std.proofs.Common.{◌≡◌, ◌+◌, ◌*◌, ◌≤◌, ◌<◌, ◌++◌, ◌∙◌, ℕ, List, length, drop, refl, sym, ap, arith, rules, length-drop, length-append}
use lib.Seq.{drop_at, drop-drop}
use Rattle.std.specs.Slice.Iter.{chunks_exact_rest}
use Rattle.octets.specs.Search.{all}
use Rattle.octets.proofs.Search.{all_more, and_left, and_right}
use Rattle.octets.proofs.Stands.{to_part}
use Rattle.record.specs.Octets.{record_length}
use Rattle.table.specs.Table.{pair_once, record_count, slot, slot_sound, table_length}
use Rattle.sound.proofs.Seen.{none_seen}
use Rattle.table.proofs.Slots.{wrong_length, bad_record, all_sound}
use Rattle.sound.proofs.is_sound.Goals as goal

-- what is left of the table begins with a record
module _ (l : List ℕ) (i : ℕ) (left b rest : List ℕ) (is : left ≡ drop (record_length * i) l) (cut : left ≡ b ++ rest) (size : length b ≡ record_length) where
  record_is : b ≡ slot l i
  unfolding slot
  record_is = sym (to_part b record_length size (record { stands = sym is ∙ cut }))

  rest_is : rest ≡ drop (record_length * (i + 1)) l
  rest_is =
      let place : record_length * i + record_length ≡ record_length * (i + 1) = omega arith in
      sym (drop_at b rest record_length size) ∙ ap (drop record_length) (sym cut ∙ is) ∙ drop-drop record_length (record_length * i) l ∙ ap (λ (k : ℕ). drop k l) place

  more : length l ≡ table_length → i + 1 ≤ record_count
  more whole = omega (arith, ap length is, ap length cut, length-append b rest, length-drop (record_length * i) l)

-- no record is left
last : (l : List ℕ) (i : ℕ) {left : List ℕ} → left ≡ drop (record_length * i) l → length left < record_length → length l ≡ table_length → i ≤ record_count → i ≡ record_count
last l i is short whole most = omega (arith, ap length is, length-drop (record_length * i) l)

pub returns-then-table-ne-TABLE : goal.returns-then-table-ne-TABLE
returns-then-table-ne-TABLE c = wrong_length _ c.if-table-ne-TABLE.true

pub loop-b-init : goal.loop-b-init
unfolding all
loop-b-init c = (0, search rules, search rules, search rules, refl, refl, none_seen _)

pub returns-then-not-is_next : goal.returns-then-not-is_next
returns-then-not-is_next c =
    let l = c.args.table.now in
    let at_loop = c.loop-b.invariant in
    let i = at_loop.0 in
    let cut = c.in-Some.ensures.steps.1 in
    let size : length c.in-Some.b.now ≡ record_length = cut.1 ∙ at_loop.1 in
    let passes = c.is_next.ensures l i (record_is l i _ _ _ at_loop.2 cut.0 size) at_loop.6 in
    bad_record l c.if-table-ne-TABLE.false i (more l i _ _ _ at_loop.2 cut.0 size c.if-table-ne-TABLE.false) (sym passes.tells ∙ c.if-not-is_next.true)

pub loop-b-preserved : goal.loop-b-preserved
loop-b-preserved c =
    let l = c.args.table.now in
    let at_loop = c.loop-b.invariant in
    let i = at_loop.0 in
    let steps = c.in-Some.ensures.steps in
    let cut = steps.1 in
    let size : length c.in-Some.b.now ≡ record_length = cut.1 ∙ at_loop.1 in
    let passes = c.is_next.ensures l i (record_is l i _ _ _ at_loop.2 cut.0 size) at_loop.6 in
    let both = sym passes.tells ∙ c.if-not-is_next.false in
    (i + 1, steps.0 ∙ at_loop.1, rest_is l i _ _ _ at_loop.2 cut.0 size, more l i _ _ _ at_loop.2 cut.0 size c.if-table-ne-TABLE.false, all_more i (slot_sound l) at_loop.4 (and_left (slot_sound l i) (pair_once l i) both), all_more i (pair_once l) at_loop.5 (and_right (slot_sound l i) (pair_once l i) both), passes.flags c.if-not-is_next.false)

pub returns : goal.returns
returns c =
    let l = c.args.table.now in
    let at_loop = c.loop-b.invariant in
    let short : length (chunks_exact_rest c.loop-b.b-iterator) < record_length = omega (arith, c.in-None.ensures.steps.1.0, at_loop.1) in
    all_sound l c.if-table-ne-TABLE.false at_loop.0 (last l at_loop.0 at_loop.2 short c.if-table-ne-TABLE.false at_loop.3) at_loop.4 at_loop.5
