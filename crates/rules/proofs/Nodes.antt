-- The `node` address of a configuration text fits its octets.
use Rattle.std.specs.Prelude.{Option, None, Some}
use Prim.Native.Nat.{ℕ, ◌*◌, ◌^◌, ◌<◌}
use mathlib.Core.Bool.{Bool, true, false, cond, ◌&&◌}
use mathlib.Core.List.{List, [], ◌∷◌, map}
use mathlib.Core.Path.{◌≡◌, refl, ap, ◌∙◌, subst}
use lib.Dec.{eqb}
use lib.ListN.{length}
use borrow.Author.Tests.{eqb-true}
use Rattle.octets.specs.Part.{same}
use Rattle.octets.specs.Search.{all_of}
use Rattle.octets.proofs.Digits.{digit_pairs}
use Rattle.octets.proofs.Search.{and_left, and_right, and_true, cond_passes}
use Rattle.address.specs.Address.{width_of}
use Rattle.addresses.specs.Laws.{address_storable}
use Rattle.addresses.proofs.RoundTrip.{number_storable}
use Rattle.config.specs.Lines.{entries, entries_from, last_entry}
use Rattle.config.specs.Settings.{Settings, accepted, after_node, as_home, as_listed, as_node, config_of, first_node, from_home, is_end, name_place, plmn_in, rest, section, settle, with_home}
use Rattle.config.specs.declared.Node.{Node}
use Rattle.config.specs.declared.Kind.TheVariants as Kind
use Rattle.entry.specs.Entry.{Entry, bar_entry, entry_of, four, home_entry, line_entry, name_entry, node_entry, plmn_entry, three, address_entry, version_entry}
use Rattle.entry.specs.Field.{is_name, plmn_of, priority_of}
use Rattle.entry.specs.Pieces.{pieces}
use Rattle.network.specs.declared.Plmn.{Plmn}
use Rattle.text.specs.Text.{read_digits, text}
use Rattle.text.proofs.Texts.{read_below}

-- an address that stands in an entry, in `node` or in the settings fits its octets
unfoldable pub entry_storable : Entry → Bool
entry_storable (Entry.Home p) = true
entry_storable (Entry.Name n) = true
entry_storable (Entry.Node a) = address_storable a
entry_storable (Entry.Preference p) = true
entry_storable (Entry.Bar p) = true
entry_storable Entry.Bad = true

unfoldable pub node_storable : Option Node → Bool
node_storable None = true
node_storable (Some (Node.Name at n)) = true
node_storable (Some (Node.Address a)) = address_storable a

unfoldable pub settings_storable : Option Settings → Bool
settings_storable None = true
settings_storable (Some s) = node_storable s.node

-- two digits an octet say a number of the version's width
address_entry_lem : (version : ℕ) (l : List ℕ) (o : Option ℕ) → length l ≡ 2 * width_of version → read_digits 16 l ≡ o → entry_storable (address_entry version o) ≡ true
unfolding address_entry entry_storable
address_entry_lem version l None size e = refl
address_entry_lem version l (Some x) size e =
    number_storable version x (subst (λ (p : ℕ). x < p) (ap (λ (n : ℕ). 16 ^ n) size ∙ digit_pairs 16 (width_of version)) (read_below 16 x l e))

version_entry_lem : (version : ℕ) (l : List ℕ) → entry_storable (version_entry version l) ≡ true
unfolding version_entry entry_storable
version_entry_lem version l = go (eqb (length l) (2 * width_of version)) refl
  where
    go : (t : Bool) → eqb (length l) (2 * width_of version) ≡ t → entry_storable (cond t (address_entry version (read_digits 16 l)) Entry.Bad) ≡ true
    go true e = address_entry_lem version l (read_digits 16 l) (eqb-true (length l) (2 * width_of version) e) refl
    go false e = refl

-- `node` goes on with a name or with an address that fits
node_entry_lem : (kind l : List ℕ) → entry_storable (node_entry kind l) ≡ true
unfolding node_entry name_entry entry_storable
node_entry_lem kind l =
    let six = cond (same kind (text "v6")) (version_entry 6 l) Entry.Bad in
    let four = cond (same kind (text "v4")) (version_entry 4 l) six in
    let six-storable = cond_passes entry_storable (same kind (text "v6")) (version_entry 6 l) Entry.Bad (version_entry_lem 6 l) refl in
    let four-storable = cond_passes entry_storable (same kind (text "v4")) (version_entry 4 l) six (version_entry_lem 4 l) six-storable in
    let name-storable = cond_passes entry_storable (is_name l) (Entry.Name (length l)) Entry.Bad refl refl in
    cond_passes entry_storable (same kind (text "name")) (name_entry l) four name-storable four-storable

-- entries of a PLMN keep no address
home_entry_lem : (o : Option Plmn) → entry_storable (home_entry o) ≡ true
unfolding home_entry entry_storable
home_entry_lem None = refl
home_entry_lem (Some p) = refl

bar_entry_lem : (o : Option Plmn) → entry_storable (bar_entry o) ≡ true
unfolding bar_entry entry_storable
bar_entry_lem None = refl
bar_entry_lem (Some p) = refl

plmn_entry_lem : (o : Option Plmn) (r : Option ℕ) → entry_storable (plmn_entry o r) ≡ true
unfolding plmn_entry entry_storable
plmn_entry_lem None r = refl
plmn_entry_lem (Some p) None = refl
plmn_entry_lem (Some p) (Some n) = refl

-- every entry fits, whatever its fields
three_fields : (w a b : List ℕ) → entry_storable (three w a b) ≡ true
unfolding three entry_storable
three_fields w a b =
    let o = plmn_of a b in
    let node = cond (same w (text "node")) (node_entry a b) Entry.Bad in
    let bar = cond (same w (text "bar")) (bar_entry o) node in
    let node-storable = cond_passes entry_storable (same w (text "node")) (node_entry a b) Entry.Bad (node_entry_lem a b) refl in
    let bar-storable = cond_passes entry_storable (same w (text "bar")) (bar_entry o) node (bar_entry_lem o) node-storable in
    cond_passes entry_storable (same w (text "home")) (home_entry o) bar (home_entry_lem o) bar-storable

by_fields : (fs : List (List ℕ)) → entry_storable (entry_of fs) ≡ true
unfolding entry_of four entry_storable
by_fields [] = refl
by_fields (a ∷ []) = refl
by_fields (a ∷ b ∷ []) = refl
by_fields (a ∷ b ∷ c ∷ []) = three_fields a b c
by_fields (a ∷ b ∷ c ∷ d ∷ []) =
    let o = plmn_of b c in
    let n = priority_of d in
    cond_passes entry_storable (same a (text "plmn")) (plmn_entry o n) Entry.Bad (plmn_entry_lem o n) refl
by_fields (a ∷ b ∷ c ∷ d ∷ e ∷ fs) = refl

last_entry_lem : (l : List ℕ) → all_of entry_storable (last_entry l) ≡ true
unfolding last_entry all_of entry_storable
last_entry_lem [] = refl
last_entry_lem (c ∷ l) = refl

-- every entry of a text fits
every_entry : (ls : List (List ℕ)) → all_of entry_storable (entries ls) ≡ true
unfolding entries line_entry all_of
every_entry [] = refl
every_entry (l ∷ []) = last_entry_lem l
every_entry (l ∷ m ∷ ls) = and_true (entry_storable (line_entry l)) (all_of entry_storable (entries (m ∷ ls))) (by_fields (pieces 9 l)) (every_entry (m ∷ ls))

-- `node` comes from an entry
from_entry : (at : ℕ) (e : Entry) → entry_storable e ≡ true → node_storable (as_node at e) ≡ true
unfolding entry_storable node_storable as_node
from_entry at (Entry.Home p) h = refl
from_entry at (Entry.Name n) h = refl
from_entry at (Entry.Node a) h = h
from_entry at (Entry.Preference p) h = refl
from_entry at (Entry.Bar p) h = refl
from_entry at Entry.Bad h = refl

from_entries : (at : ℕ) (es : List Entry) → all_of entry_storable es ≡ true → node_storable (first_node at es) ≡ true
unfolding first_node all_of node_storable
from_entries at [] h = refl
from_entries at (e ∷ es) h = from_entry at e (and_left (entry_storable e) (all_of entry_storable es) h)

-- the settings keep that `node`
settled : (h : Plmn) (n : Option Node) (es : List Entry) → node_storable n ≡ true → settings_storable (settle h n es) ≡ true
unfolding settle settings_storable
settled h n es storable =
    let ps = section (as_listed Kind.Plmn) es in
    let behind = rest (as_listed Kind.Plmn) es in
    let bs = section (as_listed Kind.Bar) behind in
    cond_passes settings_storable (accepted (map plmn_in ps) && accepted (map plmn_in bs) && is_end (rest (as_listed Kind.Bar) behind))
    (Some (record { home = h; node = n; plmns = ps; bars = map plmn_in bs })) None storable refl

behind_home : (o : Option Plmn) (at : ℕ) (es : List Entry) → all_of entry_storable es ≡ true → settings_storable (with_home o at es) ≡ true
unfolding with_home settings_storable
behind_home None at es h = refl
behind_home (Some p) at es h = settled p (first_node at es) (after_node at es) (from_entries at es h)

whole_text : (at : ℕ) (es : List Entry) → all_of entry_storable es ≡ true → settings_storable (from_home at es) ≡ true
unfolding from_home settings_storable all_of
whole_text at [] h = refl
whole_text at (e ∷ es) h = behind_home (as_home e) at es (and_right (entry_storable e) (all_of entry_storable es) h)

-- whatever a configuration text says
pub config_storable : (l : List ℕ) → settings_storable (config_of l) ≡ true
unfolding config_of entries_from
config_storable l = whole_text (name_place l) (entries_from l 0) (every_entry (pieces 10 l))
