-- What the tests of a choice come to.
use Rattle.std.specs.Prelude.{None, Some}
use mathlib.Core.Bool.{true, false}
use mathlib.Core.List.{List, [], ◌∷◌}
use mathlib.Core.Path.{◌≡◌, sym}
use Rattle.network.specs.Plmn.{among}
use Rattle.network.specs.declared.Plmn.{Plmn}
use Rattle.config.specs.Settings.{Settings}
use Rattle.preference.specs.Preference.{provisioned, barred, unbarred, preferred, ranked}
use Rattle.selection.specs.Selection.{ask_or, at_home, direct, if_listed, country, none_listed, one_or_more}
use Rattle.place.specs.declared.Facts.{Facts}

module _ (s : Settings) (p : Plmn) where
  -- S3
  pub not_provisioned : provisioned s ≡ false → false ≡ direct s p
  unfolding direct
  not_provisioned e = sym (rw e)

  module _ (is-provisioned : provisioned s ≡ true) where
    pub registered_barred : barred s p ≡ true → false ≡ direct s p
    unfolding direct unbarred
    registered_barred e = sym (rw (is-provisioned, e))

    pub by_record : barred s p ≡ false → preferred s p ≡ direct s p
    unfolding direct unbarred
    by_record e = sym (rw (is-provisioned, e))

  -- the registered PLMN in a country answer
  module _ (ps : List Plmn) where
    pub not_listed : among p ps ≡ false → None ≡ if_listed s (Some p) ps
    unfolding if_listed
    not_listed e = sym (rw e)

    module _ (is-listed : among p ps ≡ true) where
      pub listed_barred : barred s p ≡ true → None ≡ if_listed s (Some p) ps
      unfolding if_listed unbarred
      listed_barred e = sym (rw (is-listed, e))

      pub listed_free : barred s p ≡ false → Some p ≡ if_listed s (Some p) ps
      unfolding if_listed unbarred
      listed_free e = sym (rw (is-listed, e))

-- a country answer by its list
module _ (s : Settings) (f : Facts) (ps : List Plmn) where
  pub none_is : ps ≡ [] → ask_or (ranked s ps f.place) (at_home s) ≡ country s f (Some ps)
  unfolding country none_listed
  none_is e = rw e

  pub more_are : (q : Plmn) (qs : List Plmn) → ps ≡ q ∷ qs → one_or_more s f ps ≡ country s f (Some ps)
  unfolding country
  more_are q qs e = rw e
