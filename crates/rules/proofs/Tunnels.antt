-- Children stand only on a live line; a child made adds one, a child deleted takes one.
use Rattle.std.specs.Prelude.{Some}
use Prim.Native.Nat.{ℕ, suc, ◌≤◌}
use mathlib.Core.Bool.{Bool, true, false, not, ◌||◌, false≢true}
use mathlib.Core.List.{List, [], ◌∷◌, ◌++◌}
use mathlib.Core.Path.{◌≡◌, refl, ap, ◌∙◌}
use native.Mathlib.Omega.{arith}
use lib.Dec.{leb}
use lib.ListN.{length}
use borrow.Author.Tests.{eqb-true, leb-true, not-true}
use Rattle.octets.specs.Row.{keep, only}
use Rattle.octets.specs.Search.{any_of, distinct}
use Rattle.octets.proofs.Search.{and_left, and_right, or_left, or_other, or_right}
use Rattle.children.specs.Children.{has_spi, is_other, is_spi, same_spi, spis_differ}
use Rattle.children.specs.declared.Child.{Child}
use Rattle.phase.specs.Stage.{is_in}
use Rattle.phase.specs.Stage as Stage
use Rattle.record.specs.Changes.{current, with_children}
use Rattle.record.specs.Line.{Line}
use Rattle.rules.specs.Call.{child_made, child_deleted, timed, pair_of}
use Rattle.rules.specs.Claims.{Good, Timed, line_in}
use Rattle.rules.specs.Life.{outcome}
use Rattle.rules.specs.Refusals.{is_allowed}
use Rattle.rules.specs.Run.{run}
use Rattle.rules.proofs.Accepted.{found_storable, found_sound}
use Rattle.rules.proofs.Timed.{event_passes, timed_run}
use Rattle.rules.proofs.Valid.{Valid, valid_of}

none_left : (cs : List Child) → length cs ≤ 0 → cs ≡ []
none_left [] h = refl
none_left (c ∷ cs) h = absurd (omega arith)

-- the line of an open pair of a sound table is valid
line_valid : (tenant line : ℕ) (l : List ℕ) (x : Line) → Good l → line_in l tenant line ≡ Some x → Valid x
unfolding pair_of
line_valid tenant line l x good e =
    let p = pair_of tenant line in
    valid_of x (found_sound l good.sound p (omega arith) x e) (found_storable l good.sound p (omega arith) x e good.octets)

pub tunnels_live : (tenant line : ℕ) (l : List ℕ) (x : Line) → Good l → line_in l tenant line ≡ Some x → is_in Stage.live x.phase ≡ false → x.children ≡ []
tunnels_live tenant line l x good e h =
    let few = leb (length x.children) 0 in
    none_left x.children (leb-true (length x.children) 0 (or_other (is_in Stage.live x.phase) few (line_valid tenant line l x good e).children_valid.on_live h))

-- of children with different SPIs, one that is there is taken and no other
all_other : (spi : ℕ) (cs : List Child) → any_of (is_spi spi) cs ≡ false → only (is_other spi) cs ≡ cs
unfolding any_of only keep is_other is_spi
all_other spi [] h = refl
all_other spi (c ∷ cs) h =
    rw (or_left (is_spi spi c) (any_of (is_spi spi) cs) h) (ap (λ (ds : List Child). c ∷ ds) (all_other spi cs (or_right (is_spi spi c) (any_of (is_spi spi) cs) h)))

one_less : (spi : ℕ) (cs : List Child) → spis_differ cs ≡ true → has_spi spi cs ≡ true → suc (length (only (is_other spi) cs)) ≡ length cs
unfolding spis_differ distinct has_spi any_of only keep is_other is_spi same_spi
one_less spi [] differ there = absurd (false≢true there)
one_less spi (c ∷ cs) differ there =
    go (is_spi spi c) refl there (one_less spi cs (and_right (not (any_of (same_spi c) cs)) (distinct same_spi cs) differ))
  where
    go : (t : Bool) → is_spi spi c ≡ t → t || any_of (is_spi spi) cs ≡ true → (has_spi spi cs ≡ true → suc (length (only (is_other spi) cs)) ≡ length cs)
        → suc (length (keep (is_other spi c) c (only (is_other spi) cs))) ≡ suc (length cs)
    go true e k rest =
        let own : spi ≡ c.spi = eqb-true spi c.spi e in
        let apart : any_of (is_spi spi) cs ≡ false = ap (λ (n : ℕ). any_of (is_spi n) cs) own ∙ not-true (any_of (same_spi c) cs) (and_left (not (any_of (same_spi c) cs)) (distinct same_spi cs) differ) in
        ap (λ (t : Bool). suc (length (keep (not t) c (only (is_other spi) cs)))) e ∙ ap (λ (ds : List Child). suc (length ds)) (all_other spi cs apart)
    go false e k rest = ap (λ (t : Bool). suc (length (keep (not t) c (only (is_other spi) cs)))) e ∙ ap suc (rest k)

module _ (tenant line time spi : ℕ) (l : List ℕ) (x : Line) where
  pub tunnels_made : (session : ℕ) → Timed tenant line time (child_made spi session) l x
      → (is_in Stage.live x.phase ≡ true)
      × (line_in (run (timed tenant line time (child_made spi session)) l).table tenant line
      ≡ Some (with_children (current time x) (x.children ++ record { spi = spi; session = session } ∷ [])))
  unfolding is_allowed outcome current
  tunnels_made session t =
      let e = child_made spi session in
      ((event_passes tenant line time e l x t).allowed, (timed_run tenant line time e l x t).1)

  pub tunnels_deleted : Timed tenant line time (child_deleted spi) l x
      → (line_in (run (timed tenant line time (child_deleted spi)) l).table tenant line ≡ Some (with_children (current time x) (only (is_other spi) x.children)))
      × (suc (length (only (is_other spi) x.children)) ≡ length x.children)
  unfolding is_allowed outcome current
  tunnels_deleted t =
      let e = child_deleted spi in
      let there = and_right (is_in Stage.live x.phase) (has_spi spi x.children) (event_passes tenant line time e l x t).allowed in
      ((timed_run tenant line time e l x t).1, one_less spi x.children (line_valid tenant line l x t.good t.stands).children_valid.differ there)
