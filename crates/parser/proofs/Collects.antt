-- Entries collected one after another: how many there are and whether one stands twice.
use Prim.Native.Nat.{ℕ, suc, ◌+◌, ◌≤◌, ◌<◌}
use mathlib.Core.Bool.{Bool, true, false, ◌&&◌, ◌||◌, false≢true}
use mathlib.Core.List.{List, [], ◌∷◌, ◌++◌, map, map-append, append_assoc, append-nil}
use mathlib.Core.Path.{◌≡◌, refl, sym, ap, ap₂, ◌∙◌}
use native.Mathlib.Omega.{arith}
use lib.Dec.{eqb, leb}
use lib.ListN.{length, length-append, length-map}
use borrow.Author.Tests.{eqb-true, le-leb, lt-leb}
use Rattle.octets.specs.Search.{distinct}
use Rattle.octets.proofs.Search.{and_false, and_true, eqb_turned}
use Rattle.octets.proofs.Sublists.{distinct_last, distinct_repeats}
use Rattle.entry.specs.declared.field.Preferred.{Preferred}
use Rattle.network.specs.Plmn.{among, same_plmn}
use Rattle.network.specs.declared.Plmn.{Plmn}
use Rattle.config.specs.Settings.{plmn_in, most_listed, accepted}

-- the test of PLMNs goes both ways
same_turned : (p q : Plmn) → same_plmn p q ≡ same_plmn q p
unfolding same_plmn
same_turned p q = ap₂ (λ (s t : Bool). s && t) (eqb_turned p.mcc q.mcc) (eqb_turned p.mnc q.mnc)

-- S is what is collected, d, and what is left, X
module _ (S d X : List Preferred) (split : S ≡ d ++ X) (new : distinct same_plmn (map plmn_in d) ≡ true) where
  size : length (map plmn_in S) ≡ length d + length X
  size = length-map S plmn_in ∙ ap length split ∙ length-append d X

  -- nothing is left
  pub all_collected : X ≡ [] → S ≡ d
  all_collected e = split ∙ ap (λ (x : List Preferred). d ++ x) e ∙ append-nil d

  pub all_accepted : X ≡ [] → length d ≤ most_listed → accepted (map plmn_in S) ≡ true
  unfolding accepted
  all_accepted e h =
      let none : length X ≡ 0 = ap length e in
      let few : length (map plmn_in S) ≤ most_listed = omega (arith, size) in
      and_true (leb (length (map plmn_in S)) most_listed) (distinct same_plmn (map plmn_in S)) (le-leb (length (map plmn_in S)) most_listed few) (ap (λ (x : List Preferred). distinct same_plmn (map plmn_in x)) (all_collected e) ∙ new)

  module _ (p : Preferred) (Y : List Preferred) (more : X ≡ p ∷ Y) where
    -- one more than the most is left
    too_many : length d ≡ most_listed → accepted (map plmn_in S) ≡ false
    unfolding accepted
    too_many h =
        let one : length X ≡ suc (length Y) = ap length more in
        let many : most_listed < length (map plmn_in S) = omega (arith, size) in
        rw (lt-leb (length (map plmn_in S)) most_listed many)

    -- the next one stands among those collected
    repeated : among (plmn_in p) (map plmn_in d) ≡ true → accepted (map plmn_in S) ≡ false
    unfolding accepted among
    repeated h =
        let twice : distinct same_plmn (map plmn_in S) ≡ false =
        ap (λ (x : List Preferred). distinct same_plmn (map plmn_in x)) (split ∙ ap (λ (x : List Preferred). d ++ x) more)
        ∙ ap (distinct same_plmn) (map-append plmn_in d (p ∷ Y)) ∙ distinct_repeats same_plmn same_turned (map plmn_in d) (plmn_in p) (map plmn_in Y) h in
        and_false (leb (length (map plmn_in S)) most_listed) (distinct same_plmn (map plmn_in S)) twice

    -- the next one is not taken in
    pub no_more : (n : ℕ) → length d ≡ n → (r : Bool) → among (plmn_in p) (map plmn_in d) ≡ r → eqb n most_listed || r ≡ true → accepted (map plmn_in S) ≡ false
    no_more n size r found h = go (eqb n most_listed) r refl found h
      where
        go : (t u : Bool) → eqb n most_listed ≡ t → among (plmn_in p) (map plmn_in d) ≡ u → t || u ≡ true → accepted (map plmn_in S) ≡ false
        go true u e f k = too_many (size ∙ eqb-true n most_listed e)
        go false true e f k = repeated f
        go false false e f k = absurd (false≢true k)

    -- the next one is collected too
    pub one_more : S ≡ (d ++ p ∷ []) ++ Y
    one_more = split ∙ ap (λ (x : List Preferred). d ++ x) more ∙ sym (append_assoc d (p ∷ []) Y)

    pub still_new : among (plmn_in p) (map plmn_in d) ≡ false → distinct same_plmn (map plmn_in (d ++ p ∷ [])) ≡ true
    unfolding among
    still_new h = ap (distinct same_plmn) (map-append plmn_in d (p ∷ [])) ∙ distinct_last same_plmn same_turned (map plmn_in d) (plmn_in p) h new
