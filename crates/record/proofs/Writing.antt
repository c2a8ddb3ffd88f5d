-- The octets of a record, part by part, and what becomes of them where one part is written anew.
use Prim.Native.Nat.{ℕ, ◌*◌, ◌≤◌}
use mathlib.Core.List.{List, ◌++◌}
use mathlib.Core.Path.{◌≡◌, refl, sym, ap, ap₂, ◌∙◌, subst}
use native.Mathlib.Omega.{arith}
use lib.ListN.{length}
use lib.Seq.{sets}
use Rattle.octets.specs.Digits.{be, digits}
use Rattle.octets.specs.Part.{padded, zeros, Wrote}
use Rattle.octets.specs.Row.{joined}
use Rattle.octets.proofs.Parts.{both, length_zeros, sets_append, wrote_length}
use Rattle.octets.proofs.Patches.{end_sets, front_sets, padded_end}
use Rattle.octets.proofs.Rows.{length_joined}
use Rattle.address.specs.declared.Hold.{Hold}
use Rattle.children.specs.Children.{child_octets, children_octets, children_room}
use Rattle.children.specs.declared.Child.{Child}
use Rattle.children.proofs.RoundTrip as Children
use Rattle.children.proofs.Widths.{child_wide}
use Rattle.holds.specs.Holds.{hold_octets, holds_octets, holds_room}
use Rattle.holds.proofs.RoundTrip as Holds
use Rattle.holds.proofs.Widths.{hold_wide}
use Rattle.phase.specs.Phase.{phase_octets}
use Rattle.phase.specs.declared.Phase.{Phase}
use Rattle.phase.proofs.Writes.{phase_length_lem}
use Rattle.record.specs.Changes.{with_children, with_holds}
use Rattle.record.specs.Line.{Line}
use Rattle.record.specs.Octets.{child_count_place, children_place, hold_count_place, holds_place, record_octets, record_length, time_place}

-- the parts of a record, one behind the other
module _ (pair t : ℕ) (p : Phase) where
  abbrev pub head : List ℕ
  head = be 1 pair ++ be 4 t ++ phase_octets p

  pub head_length : length head ≡ 25
  unfolding be digits
  head_length = both (be 1 pair ++ be 4 t) (phase_octets p) 5 20 refl (phase_length_lem p)

  module _ (hs : List Hold) where
    pub first_count : length (head ++ be 1 (length hs)) ≡ 26
    unfolding be digits
    first_count = both head (be 1 (length hs)) 25 1 head_length refl

    module _ (cs : List Child) where
      -- the head and the counts
      abbrev pub counted : List ℕ
      counted = head ++ be 1 (length hs) ++ be 1 (length cs)

      pub counted_length : length counted ≡ 27
      unfolding be digits
      counted_length = both (head ++ be 1 (length hs)) (be 1 (length cs)) 26 1 first_count refl

      pub held_length : length hs ≤ 8 → length (counted ++ holds_octets hs) ≡ children_place
      held_length few = both counted (holds_octets hs) 27 holds_room counted_length (Holds.octet_count hs few)

pub octet_count : (pair : ℕ) (x : Line) → length x.holds ≤ 8 → length x.children ≤ 8 → length (record_octets pair x) ≡ record_length
unfolding record_octets
octet_count pair x few_holds few_children =
    let front = counted pair x.time x.phase x.holds x.children ++ holds_octets x.holds in
    both front (children_octets x.children) children_place 40 (held_length pair x.time x.phase x.holds x.children few_holds) (Children.octet_count x.children few_children)

-- a write over other octets that are the same
pub over : {l r m vs : List ℕ} {at : ℕ} → l ≡ r → Wrote l at vs m → Wrote r at vs m
over {vs = vs} {at = at} is w = record { wrote = w.wrote ∙ ap (λ (k : List ℕ). sets k at vs) is }

-- a count that is written to a record
pub counted_in : {l r m : List ℕ} {at x y : ℕ} → l ≡ r → x ≡ y → Wrote l at (be 1 x) m → Wrote r at (be 1 y) m
counted_in {at = at} is same w = record { wrote = w.wrote ∙ ap₂ (λ (k : List ℕ) (n : ℕ). sets k at (be 1 n)) is same }

-- what has room still has it
pub still_room : (k : ℕ) {l m vs : List ℕ} {at : ℕ} → Wrote l at vs m → k ≤ length l → k ≤ length m
still_room k w h = subst (λ (n : ℕ). k ≤ n) (sym (wrote_length w)) h

-- the same line at another time and in another phase
unfoldable pub at_time : ℕ → Phase → Line → Line
at_time time p x = record { time = time; phase = p; holds = x.holds; children = x.children }

-- a record that is changed where it lies
module _ (pair : ℕ) (x : Line) where
  abbrev h : List ℕ
  h = head pair x.time x.phase

  -- another time and another phase
  pub head_changed : (t : ℕ) (p : Phase) → length x.holds ≤ 8 → sets (record_octets pair x) time_place (be 4 t ++ phase_octets p) ≡ record_octets pair (at_time t p x)
  unfolding record_octets at_time be digits
  head_changed t p few =
      let vs = be 4 t ++ phase_octets p in
      let size : length vs ≡ 24 = both (be 4 t) (phase_octets p) 4 20 refl (phase_length_lem p) in
      let first = be 1 (length x.holds) in
      let second = be 1 (length x.children) in
      let first_ends = first_count pair x.time x.phase x.holds in
      let second_ends = counted_length pair x.time x.phase x.holds x.children in
      let third_ends = held_length pair x.time x.phase x.holds x.children few in
      front_sets (h ++ first ++ second ++ holds_octets x.holds) (children_octets x.children) 1 vs (omega (arith, size, third_ends))
      ∙ ap (λ (l : List ℕ). l ++ children_octets x.children)
      (front_sets (h ++ first ++ second) (holds_octets x.holds) 1 vs (omega (arith, size, second_ends))
      ∙ ap (λ (l : List ℕ). l ++ holds_octets x.holds)
      (front_sets (h ++ first) second 1 vs (omega (arith, size, first_ends))
      ∙ ap (λ (l : List ℕ). l ++ second)
      (front_sets h first 1 vs (omega (arith, size, head_length pair x.time x.phase))
      ∙ ap (λ (l : List ℕ). l ++ first) (sets_append h 1 (be 4 t) (phase_octets p)
      ∙ ap (λ (l : List ℕ). sets l 5 (phase_octets p)) (front_sets (be 1 pair ++ be 4 x.time) (phase_octets x.phase) 1 (be 4 t) (omega arith)
      ∙ ap (λ (l : List ℕ). l ++ phase_octets x.phase) (end_sets (be 1 pair) (be 4 x.time) 1 (be 4 t) refl refl))
      ∙ end_sets (be 1 pair ++ be 4 t) (phase_octets x.phase) 5 (phase_octets p) refl (phase_length_lem x.phase ∙ sym (phase_length_lem p))))))

  -- other holds, with their count
  pub holds_changed : (hs : List Hold) → length x.holds ≤ 8 → length hs ≤ 8 → {l₁ l₂ l₃ : List ℕ} → Wrote (record_octets pair x) hold_count_place (be 1 (length hs)) l₁
      → Wrote l₁ holds_place (zeros holds_room) l₂ → Wrote l₂ holds_place (joined hold_octets hs) l₃ → l₃ ≡ record_octets pair (with_holds x hs)
  unfolding record_octets with_holds be digits holds_octets
  holds_changed hs few_before few {l₁} {l₂} {l₃} w₁ w₂ w₃ =
      let js = joined hold_octets hs in
      let size : length js ≡ 22 * length hs = length_joined hold_octets 22 hold_wide hs in
      let first = be 1 (length x.holds) in
      let second = be 1 (length x.children) in
      let tail = children_octets x.children in
      let start = h ++ be 1 (length hs) ++ second in
      let start_ends : length start ≡ 27 = both (h ++ be 1 (length hs)) second 26 1 (both h (be 1 (length hs)) 25 1 (head_length pair x.time x.phase) refl) refl in
      let cleared : length (start ++ zeros holds_room) ≡ children_place = both start (zeros holds_room) 27 holds_room start_ends (length_zeros holds_room) in
      let held = padded holds_room (joined hold_octets x.holds) in
      let held_ends : length (start ++ held) ≡ children_place = both start held 27 holds_room start_ends (Holds.octet_count x.holds few_before) in
      let at₁ : l₁ ≡ start ++ held ++ tail =
      w₁.wrote ∙ front_sets (h ++ first ++ second ++ held) tail 25 (be 1 (length hs)) (omega (arith, held_length pair x.time x.phase x.holds x.children few_before))
      ∙ ap (λ (l : List ℕ). l ++ tail) (front_sets (h ++ first ++ second) held 25 (be 1 (length hs)) (omega (arith, counted_length pair x.time x.phase x.holds x.children))
      ∙ ap (λ (l : List ℕ). l ++ held) (front_sets (h ++ first) second 25 (be 1 (length hs)) (omega (arith, first_count pair x.time x.phase x.holds))
      ∙ ap (λ (l : List ℕ). l ++ second) (end_sets h first 25 (be 1 (length hs)) (head_length pair x.time x.phase) refl))) in
      let at₂ : l₂ ≡ start ++ zeros holds_room ++ tail =
      w₂.wrote ∙ ap (λ (l : List ℕ). sets l 27 (zeros holds_room)) at₁
      ∙ front_sets (start ++ held) tail 27 (zeros holds_room) (omega (arith, held_ends, length_zeros holds_room))
      ∙ ap (λ (l : List ℕ). l ++ tail) (end_sets start held 27 (zeros holds_room) start_ends (Holds.octet_count x.holds few_before ∙ sym (length_zeros holds_room))) in
      w₃.wrote ∙ ap (λ (l : List ℕ). sets l 27 js) at₂ ∙ front_sets (start ++ zeros holds_room) tail 27 js (omega (arith, cleared, size))
      ∙ ap (λ (l : List ℕ). l ++ tail) (padded_end start holds_room 27 js start_ends (omega (arith, size)))

  -- other children, with their count
  pub children_changed : (cs : List Child) → length x.holds ≤ 8 → length x.children ≤ 8 → length cs ≤ 8 → {l₁ l₂ l₃ : List ℕ}
      → Wrote (record_octets pair x) child_count_place (be 1 (length cs)) l₁ → Wrote l₁ children_place (zeros children_room) l₂ → Wrote l₂ children_place (joined child_octets cs) l₃
      → l₃ ≡ record_octets pair (with_children x cs)
  unfolding record_octets with_children be digits children_octets
  children_changed cs few_holds few_before few {l₁} {l₂} {l₃} w₁ w₂ w₃ =
      let js = joined child_octets cs in
      let size : length js ≡ 5 * length cs = length_joined child_octets 5 child_wide cs in
      let second = be 1 (length x.children) in
      let held = holds_octets x.holds in
      let tail = padded children_room (joined child_octets x.children) in
      let first = h ++ be 1 (length x.holds) in
      let first_ends = first_count pair x.time x.phase x.holds in
      let start = first ++ be 1 (length cs) ++ held in
      let start_ends : length start ≡ children_place =
      both (first ++ be 1 (length cs)) held 27 holds_room (both first (be 1 (length cs)) 26 1 first_ends refl) (Holds.octet_count x.holds few_holds) in
      let at₁ : l₁ ≡ start ++ tail =
      w₁.wrote ∙ front_sets (first ++ second ++ held) tail 26 (be 1 (length cs)) (omega (arith, held_length pair x.time x.phase x.holds x.children few_holds))
      ∙ ap (λ (l : List ℕ). l ++ tail) (front_sets (first ++ second) held 26 (be 1 (length cs)) (omega (arith, counted_length pair x.time x.phase x.holds x.children))
      ∙ ap (λ (l : List ℕ). l ++ held) (end_sets first second 26 (be 1 (length cs)) first_ends refl)) in
      let at₂ : l₂ ≡ start ++ zeros children_room =
      w₂.wrote ∙ ap (λ (l : List ℕ). sets l children_place (zeros children_room)) at₁
      ∙ end_sets start tail children_place (zeros children_room) start_ends (Children.octet_count x.children few_before ∙ sym (length_zeros children_room)) in
      w₃.wrote ∙ ap (λ (l : List ℕ). sets l children_place js) at₂ ∙ padded_end start children_room children_place js start_ends (omega (arith, size))
