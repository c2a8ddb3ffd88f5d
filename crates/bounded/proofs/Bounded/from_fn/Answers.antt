-- Each value is that of the function, and stands behind those before it.
use Rattle.std.proofs.Common.{ℕ, ◌+◌, List, ◌∷◌, [], ◌++◌, ◌≡◌, arith, add-one, ap, sym, ap₂, ◌∙◌}
use Rattle.std.proofs.Math.Nat.{zero-add}
use Rattle.octets.specs.Row.{row}
use Rattle.octets.proofs.Rows.{row_last}
use Rattle.bounded.proofs.Bounded.from_fn.Goals as goal

one_more : {A : Type 0} (f : ℕ → A) (i : ℕ) (v : A) (old new : List A) → old ≡ row f 0 i → v ≡ f i → new ≡ old ++ v ∷ [] → new ≡ row f 0 (i + 1)
one_more f i v old new made is added = added ∙ ap₂ (λ l x. l ++ x ∷ []) made is ∙ sym (ap (row f 0) (add-one i) ∙ row_last f 0 i ∙ ap (λ k. row f 0 i ++ f k ∷ []) (zero-add i))

pub loop-i-init : goal.loop-i-init
unfolding row
loop-i-init g c = record { counted = c.empty-made.ensures.count; made_of = λ f h. c.empty-made.ensures.items }

pub loop-i-preserved : goal.loop-i-preserved
loop-i-preserved g c =
    let kept = c.loop-i.invariant in
    record {
      counted = omega (arith, c.push.ensures.count, kept.counted);
      made_of = λ f h. one_more f _ _ _ _ (kept.made_of f h) (h _ _ c.value.ensures) c.push.ensures.items;
    }
