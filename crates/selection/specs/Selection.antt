-- S1 to S4: what start and the country answer come to, up to the name that is asked.
use Rattle.std.specs.Prelude.{ℕ, Bool, true, false, cond, ◌&&◌, List, [], ◌∷◌, eqb, Option, None, Some}
use Rattle.network.specs.Plmn.{same_plmn, among}
use Rattle.network.specs.declared.Plmn.{Plmn}
use Rattle.config.specs.Settings.{Settings}
use Rattle.config.specs.declared.Node.{Node}
use Rattle.preference.specs.Preference.{provisioned, preferred, unbarred, ranked, unranked}
use Rattle.place.specs.declared.Place.{Place}
use Rattle.place.specs.declared.Place.TheVariants.{Unknown, Home, Abroad}
use Rattle.selection.specs.declared.Choice.{Choice}
use Rattle.selection.specs.declared.Choice.TheVariants.{Stop, Country, Text, Network, Address}
use Rattle.place.specs.declared.Facts.{Facts}
use Rattle.selection.specs.declared.Stop.TheVariants as At

-- abroad with the home MCC of the lent text, which is refused by 8
unfoldable pub home_abroad : Settings → Place → Bool
home_abroad s Unknown = false
home_abroad s Home = false
home_abroad s (Abroad mcc) = eqb mcc s.home.mcc

-- a registered PLMN that is the lent text's home PLMN counts as none
unfoldable pub counting : Settings → Option Plmn → Option Plmn
counting s None = None
counting s (Some p) = cond (same_plmn p s.home) None (Some p)

unfoldable pub registered : Settings → Facts → Option Plmn
registered s f = counting s f.registered

-- S2: a `node` address is treated as an answer list of one; a `node` name is asked; without `node`, the operator name of the home PLMN
unfoldable pub by_node : Plmn → Option Node → Choice
by_node home (Some (Node.Address a)) = Address a
by_node home (Some (Node.Name at n)) = Text at n
by_node home None = Network home

unfoldable pub at_home : Settings → Choice
at_home s = by_node s.home s.node

-- S3: provisioned, registered PLMN not barred and with a `plmn` record
unfoldable pub direct : Settings → Plmn → Bool
direct s p = provisioned s && unbarred s p && preferred s p

-- S3 asks its operator name, S4 otherwise the visited-country name
unfoldable pub abroad : Settings → Option Plmn → ℕ → Choice
abroad s None mcc = Country mcc
abroad s (Some p) mcc = cond (direct s p) (Network p) (Country mcc)

-- S1 to S4 up to the question
unfoldable pub start_at : Settings → Option Plmn → Place → Choice
start_at s r Unknown = Stop At.Place
start_at s r Home = at_home s
start_at s r (Abroad mcc) = abroad s r mcc

unfoldable pub start : Settings → Facts → Choice
start s f = start_at s (registered s f) f.place

-- the name of a network is asked, where there is one
unfoldable pub ask_or : Option Plmn → Choice → Choice
ask_or (Some p) other = Network p
ask_or None other = other

-- the registered PLMN if listed and not barred
unfoldable pub if_listed : Settings → Option Plmn → List Plmn → Option Plmn
if_listed s None ps = None
if_listed s (Some p) ps = cond (among p ps && unbarred s p) (Some p) None

-- one or more are listed: the registered one, else the one of best priority, else the first that is not barred, else stop 3
unfoldable pub one_or_more : Settings → Facts → List Plmn → Choice
one_or_more s f ps =
    ask_or (if_listed s (registered s f) ps) (ask_or (ranked s ps f.place) (ask_or (unranked s ps) (Stop At.Barred)))

-- none is listed: the best `plmn` record with the visited MCC, else as S2
unfoldable pub none_listed : Settings → Facts → Choice
none_listed s f = ask_or (ranked s [] f.place) (at_home s)

-- the country answer: no reply, or a list of PLMNs
unfoldable pub country : Settings → Facts → Option (List Plmn) → Choice
country s f None = Stop At.NoReply
country s f (Some []) = none_listed s f
country s f (Some (p ∷ ps)) = one_or_more s f (p ∷ ps)

-- the answer that the daemon hands in
unfoldable pub country_reply : Bool → List Plmn → Option (List Plmn)
country_reply true ps = Some ps
country_reply false ps = None
