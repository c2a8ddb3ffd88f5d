-- The names under which N3IWFs are looked up, and what a buffer holds once a name is written.
use Rattle.std.specs.Prelude.{ℕ, List, ◌++◌, ◌≡◌, length}
use Rattle.octets.specs.Part.{padded}
use Rattle.text.specs.Text.{text, digit_text}
use Rattle.network.specs.declared.Plmn.{Plmn}

-- a built name is written to a buffer of at least so many octets
abbrev pub name_room : ℕ
name_room = 64

-- the name of an operator's network has its MNC and its MCC in three digits each (TS 23.003 clause 28)
unfoldable pub operator_name : Plmn → List ℕ
operator_name plmn =
    text "n3iwf.5gc.mnc" ++ digit_text 10 3 plmn.mnc ++ text ".mcc" ++ digit_text 10 3 plmn.mcc ++ text ".pub.3gppnetwork.org"

-- the name of a visited country has its MCC in three digits (TS 23.003 clause 28)
unfoldable pub visited_name : ℕ → List ℕ
visited_name mcc = text "n3iwf.5gc.mcc" ++ digit_text 10 3 mcc ++ text ".visited-country.pub.3gppnetwork.org"

-- a buffer of n octets holds a name and zeros after it, and r is the name's length
pub record Named (name : List ℕ) (n : ℕ) (buffer : List ℕ) (r : ℕ) : Type 0 where
  pub whole : buffer ≡ padded n name
  pub size : r ≡ length name
