-- A PLMN at a place of a text.
use Rattle.std.specs.Prelude.{None, Some}
use Rattle.std.proofs.Common.{◌≡◌, ℕ, ◌+◌, ◌≤◌, List, ◌∷◌, ◌++◌, length, refl, sym, ap, ◌∙◌, arith}
use mathlib.Core.Logic.{⊎_elim}
use Rattle.fields.specs.Read.{MncIs, NumberIs, PlmnIs}
use Rattle.fields.specs.declared.field.Field.{Field}
use Rattle.fields.proofs.Characters.{plmn_fields}
use Rattle.fields.proofs.Numbers.{next_is}
use Rattle.fields.proofs.Places.{field_at}
use Rattle.fields.proofs.Readings.{plmn_is}

module _ (l : List ℕ) (at end : ℕ) where
  pub no_mcc : NumberIs l at 3 10 9 None → PlmnIs l at end None
  no_mcc h a b m p e says = let f = plmn_fields a b p says in h a (b ++ end ∷ m) f.mcc e f.mcc_size f.mcc_read

  module _ (mcc : Field ℕ) (first : NumberIs l at 3 10 9 (Some mcc)) where
    pub no_mnc : at ≤ length l → MncIs l mcc.next end None → PlmnIs l at end None
    no_mnc within h a b m p e says =
        let f = plmn_fields a b p says in
        let place : at + 3 + 1 ≡ mcc.next = omega (arith, next_is l at first.0 9 mcc.next first.1, first.2) in
        let here = field_at l at 3 9 (at + 3) mcc.next refl place a (b ++ end ∷ m) e f.mcc_size within in
        h b m f.mnc here.behind f.mnc_size f.mnc_read

    pub plmn_read : (mnc : Field ℕ) → MncIs l mcc.next end (Some mnc)
        → PlmnIs l at end (Some (record { value = record { mcc = mcc.value; mnc = mnc.value }; next = mnc.next }))
    plmn_read mnc (b, s, size, reads) = (
      first.0,
      b,
      first.1.is ∙ ap (λ (m : List ℕ). first.0 ++ 9 ∷ m) s.is,
      s.within,
      sym (plmn_is first.0 b first.2 (⊎_elim (λ q. omega arith) (λ q. omega arith) size) (⊎_elim (λ q. omega arith) (λ q. omega arith) size) first.3 reads),
    )
