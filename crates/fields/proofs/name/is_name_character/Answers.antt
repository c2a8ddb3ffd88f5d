-- `fields::name::is_name_character` meets its contract: digits and letters are tested in another order.
use Rattle.std.proofs.Common.{◌≡◌, Bool, true, false, ◌&&◌, ◌||◌, leb, eqb, refl, ap, ◌∙◌}
use Rattle.entry.specs.Field.{is_name_character}
use Rattle.fields.proofs.name.is_name_character.Goals as goal

regroup : (n u l d e : Bool) → (((n || u) || l) || d) || e ≡ (l || u || n || d || e)
regroup true true true d e = refl
regroup true true false d e = refl
regroup true false true d e = refl
regroup true false false d e = refl
regroup false true true d e = refl
regroup false true false d e = refl
regroup false false true d e = refl
regroup false false false true e = refl
regroup false false false false e = refl

pub returns : goal.returns
unfolding is_name_character
returns c =
    let x = c.args.c in
    ap (λ (t : Bool). (t || eqb x 45) || eqb x 46) c.is_ascii_alphanumeric.ensures.value
    ∙ regroup (leb 48 x && leb x 57) (leb 65 x && leb x 90) (leb 97 x && leb x 122) (eqb x 45) (eqb x 46)
