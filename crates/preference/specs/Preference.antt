-- What a configuration says of networks: provisioned, barred, preferred, and the pick among those that a country answer offers.
use Rattle.std.specs.Prelude.{Bool, true, false, cond, not, ◌&&◌, ◌||◌, List, [], ◌∷◌, map, leb, eqb, Option, None, Some, is_some}
use Rattle.octets.specs.Row.{first, only}
use Rattle.network.specs.Plmn.{among}
use Rattle.network.specs.declared.Plmn.{Plmn}
use Rattle.entry.specs.declared.field.Preferred.{Preferred}
use Rattle.config.specs.Settings.{plmn_in, Settings}
use Rattle.place.specs.declared.Place.{Place}
use Rattle.place.specs.declared.Place.TheVariants.{Unknown, Home, Abroad}

unfoldable pub has_plmns : List Preferred → Bool
has_plmns [] = false
has_plmns (x ∷ xs) = true

-- provisioned means: at least one `node` or `plmn` record
unfoldable pub provisioned : Settings → Bool
provisioned s = is_some s.node || has_plmns s.plmns

-- a PLMN is on the forbidden list
unfoldable pub barred : Settings → Plmn → Bool
barred s p = among p s.bars

unfoldable pub unbarred : Settings → Plmn → Bool
unbarred s p = not (barred s p)

-- a PLMN has a `plmn` record
unfoldable pub preferred : Settings → Plmn → Bool
preferred s p = among p (map plmn_in s.plmns)

-- a PLMN has the visited MCC, which only a place abroad has
unfoldable pub visited : Place → Plmn → Bool
visited Unknown p = false
visited Home p = false
visited (Abroad mcc) p = eqb p.mcc mcc

-- the networks that a country answer offers: those listed or, where none is listed, those with the visited MCC
unfoldable pub offered : List Plmn → Place → Plmn → Bool
offered [] place p = visited place p
offered (q ∷ qs) place p = among p (q ∷ qs)

-- a `plmn` record of a network that is offered and not barred
unfoldable pub eligible : Settings → List Plmn → Place → Preferred → Bool
eligible s ps place x = offered ps place (plmn_in x) && unbarred s (plmn_in x)

-- priority 0 is the best, and of two equal ones the earlier record
unfoldable pub better : Preferred → Option Preferred → Preferred
better x None = x
better x (Some y) = cond (leb x.priority y.priority) x y

unfoldable pub best : List Preferred → Option Preferred
best [] = None
best (x ∷ xs) = Some (better x (best xs))

unfoldable pub network_of : Option Preferred → Option Plmn
network_of None = None
network_of (Some x) = Some (plmn_in x)

-- the network of best priority
unfoldable pub ranked : Settings → List Plmn → Place → Option Plmn
ranked s ps place = network_of (best (only (eligible s ps place) s.plmns))

-- the pick where no priority decides: the first listed network that is not barred
unfoldable pub unranked : Settings → List Plmn → Option Plmn
unranked s ps = first (unbarred s) ps
