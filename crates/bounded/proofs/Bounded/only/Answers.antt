-- Each value that passes the test is kept.
use Rattle.std.proofs.Common.{ℕ, ◌+◌, ◌<◌, Bool, true, false, ◌∷◌, [], ◌++◌, ◌≡◌, List, length, get_or, take, arith, rules, sym, ap, ◌∙◌, append-nil}
use Rattle.std.proofs.lemmas.List.{take_all}
use Rattle.octets.specs.Row.{keep, only}
use Rattle.octets.proofs.Sublists.{only_next}
use Rattle.bounded.proofs.Bounded.only.Goals as goal
use Rattle.bounded.proofs.Bounded.only.Goals.{then-passes, else-passes}

module _ {A : Type 0} (p : A → Bool) (values : List A) (i : ℕ) (v : A) (within : i < length values) (here : v ≡ get_or values i v) where
  next : only p (take (i + 1) values) ≡ only p (take i values) ++ keep (p v) v []
  next = only_next p values i v within ∙ ap (λ x. only p (take i values) ++ keep (p x) x []) (sym here)

  one_more : (old new : List A) → old ≡ only p (take i values) → true ≡ p v → new ≡ old ++ v ∷ [] → new ≡ only p (take (i + 1) values)
  unfolding keep
  one_more old new kept passes added = added ∙ ap (λ l. l ++ v ∷ []) kept ∙ sym (next ∙ ap (λ b. only p (take i values) ++ keep b v []) (sym passes))

  no_more : (old new : List A) → old ≡ only p (take i values) → false ≡ p v → new ≡ old → new ≡ only p (take (i + 1) values)
  unfolding keep
  no_more old new kept passes same = same ∙ kept ∙ sym (next ∙ ap (λ b. only p (take i values) ++ keep b v []) (sym passes) ∙ append-nil _)

pub loop-value-init : goal.loop-value-init
unfolding only
loop-value-init g c = record { few = search rules; kept_of = λ p h. c.empty-kept.ensures.items }

pub loop-value-preserved : goal.loop-value-preserved
loop-value-preserved g c =
    let kept = c.loop-value.invariant in
    let here = c.value-item in
    elim c.if-passes.branch [
      | then-passes w ↦ record {
        few = omega (arith, w.push.ensures.count, ap (λ k. k.count) w.kept-is, kept.few);
        kept_of = λ p h. one_more p _ _ _ c.loop-value-test.true here.is _ _ (kept.kept_of p h) (h _ _ w.if-passes.ensures) (ap (λ k. take k.count k.list) w.kept-is ∙ w.push.ensures.items);
      }
      | else-passes w ↦ record {
        few = omega (arith, ap (λ k. k.count) w.kept-is, kept.few);
        kept_of = λ p h. no_more p _ _ _ c.loop-value-test.true here.is _ _ (kept.kept_of p h) (h _ _ w.if-passes.ensures) (ap (λ k. take k.count k.list) w.kept-is);
      }
    ]

pub returns : goal.returns
returns g c p h = c.loop-value.invariant.kept_of p h ∙ ap (only p) (take_all _ _ c.loop-value-test.false)
