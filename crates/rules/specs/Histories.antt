-- Histories: calls one after another, each on the table that the last one left.
use Rattle.std.specs.Prelude.{ℕ, Bool, true, false, ◌||◌, List, [], ◌∷◌, eqb}
use Rattle.octets.specs.Laws.{below}
use Rattle.octets.specs.Row.{keep, only}
use Rattle.octets.specs.Search.{all_of}
use Rattle.rules.specs.Answer.{Answer}
use Rattle.rules.specs.Call.{Call, opening, closing, listing, timed, lent_octets, tenant_of}
use Rattle.rules.specs.Run.{run}

unfoldable pub is_tenant : ℕ → Call → Bool
is_tenant a c = eqb (tenant_of c) a

-- the answers that one tenant gets
unfoldable pub answers_to : ℕ → List Call → List ℕ → List Answer
answers_to a [] l = []
answers_to a (c ∷ h) l =
    let r = run c l in
    keep (is_tenant a c) r.answer (answers_to a h r.table)

-- the table that a history leaves
unfoldable pub table_after : List Call → List ℕ → List ℕ
table_after [] l = l
table_after (c ∷ h) l = table_after h (run c l).table

-- what is left after striking out the other tenants' calls that are neither open nor close
unfoldable pub opens_or_closes : Call → Bool
opens_or_closes (opening tenant line) = true
opens_or_closes (closing tenant line) = true
opens_or_closes (listing tenant room) = false
opens_or_closes (timed tenant line time e) = false

unfoldable pub counts : ℕ → Call → Bool
counts a c = is_tenant a c || opens_or_closes c

unfoldable pub remaining : ℕ → List Call → List Call
remaining a h = only (counts a) h

-- the lists that are lent with a call hold octets
unfoldable pub is_octets : Call → Bool
is_octets c = all_of (below 256) (lent_octets c)
