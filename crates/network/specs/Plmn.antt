-- PLMNs, compared and listed.
use Rattle.std.specs.Prelude.{ℕ, Bool, ◌&&◌, List, leb, eqb}
use Rattle.octets.specs.Search.{any_of}
use Rattle.network.specs.declared.Plmn.{Plmn}

-- MCC and MNC are 0 to 999
abbrev pub most_code : ℕ
most_code = 999

abbrev pub plmn_fits : Plmn → Bool
plmn_fits p = leb p.mcc most_code && leb p.mnc most_code

-- PLMNs are compared as numbers
unfoldable pub same_plmn : Plmn → Plmn → Bool
same_plmn p q = eqb p.mcc q.mcc && eqb p.mnc q.mnc

-- a PLMN stands in a list
unfoldable pub among : Plmn → List Plmn → Bool
among p ps = any_of (same_plmn p) ps
