-- The octets that a line begins with.
use Rattle.std.proofs.Common.{◌≡◌, ℕ, ◌≤◌, Bool, true, false, List, ◌++◌, length, drop, eqb, refl, sym, ap, ◌∙◌, arith, length-drop}
use Rattle.std.proofs.lemmas.Bool.{false≢true}
use Rattle.std.proofs.lemmas.Bool.Decides.{Decides-eqb}
use Rattle.std.proofs.lemmas.Slice.Eq.{starts_is}
use Rattle.std.specs.List.{starts_with}
use lib.Seq.{drop-drop}
use Rattle.entries.specs.Branch.{BeginsIs}

pub begins_is : (l : List ℕ) (at : ℕ) (w : List ℕ) → at ≤ length l → (s : List ℕ) → s ≡ drop at l → (r : Bool) → (r ≡ true → length w ≤ length s) → r ≡ starts_with eqb s w → BeginsIs l at w r
begins_is l at w within s e true room h =
    let stands = (starts_is Decides-eqb s w true h).0 refl in
    (sym e ∙ stands ∙ ap (λ (m : List ℕ). w ++ m) (ap (drop (length w)) e ∙ drop-drop (length w) at l), omega (arith, room refl, ap length e, length-drop at l))
begins_is l at w within s e false room h = λ m q. false≢true ((starts_is Decides-eqb s w false h).1 m (e ∙ q))
