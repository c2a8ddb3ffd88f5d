-- `parameter_reader::parameter_at` meets its contract: what the slice from the place on has picks the case.
use Rattle.std.proofs.Common.{◌≡◌, ℕ, ◌+◌, ◌-◌, ◌<◌, ◌≤◌, List, length, take, drop, get_or, add-zero, sym, ◌∙◌, arith}
use Rattle.std.proofs.lemmas.List.{length-take, length-drop, get_or-take, get_or-drop}
use Rattle.octets.specs.Digits.{field}
use Rattle.parameters.specs.Parameters.{size}
use Rattle.parameters.proofs.Walk.{ends, field_one, fits, no_room, no_value}
use Rattle.parameter_reader.proofs.parameter_at.Goals as goal

-- an octet of what is left from a place on
octet : (l : List ℕ) (at k : ℕ) → at + k < length l → get_or (take (length l - at) (drop at l)) k 0 ≡ field l (at + k) 1
octet l at k h =
    get_or-take (length l - at) (drop at l) k 0 (omega arith) ∙ get_or-drop at l k 0 ∙ sym (field_one l (at + k) h)

pub returns-then-parameters-at : goal.returns-then-parameters-at
returns-then-parameters-at c = no_room _ _ (λ e. omega (arith, e)) (omega arith)

pub returns-in-empty : goal.returns-in-empty
returns-in-empty c = ends _ _ (omega (arith, length-take {A = ℕ}, length-drop {A = ℕ}))

pub returns-in_default : goal.returns-in_default
returns-in_default c =
    no_room _ _ (λ e. omega (arith, e, length-take {A = ℕ}, length-drop {A = ℕ})) (omega (arith, length-take {A = ℕ}, length-drop {A = ℕ}))

pub returns-then-value-length : goal.returns-then-value-length
unfolding size
returns-then-value-length c =
    let l = c.args.parameters.now in
    let at = c.args.at in
    let room : at + 2 ≤ length l = omega (arith, length-take {A = ℕ}, length-drop {A = ℕ}) in
    no_value l at (λ e. omega (arith, e)) room (omega (arith, octet l at 1 (omega arith), length-take {A = ℕ}, length-drop {A = ℕ}))

pub returns-else-value-length : goal.returns-else-value-length
unfolding size
returns-else-value-length c =
    let l = c.args.parameters.now in
    let at = c.args.at in
    let room : at + 2 ≤ length l = omega (arith, length-take {A = ℕ}, length-drop {A = ℕ}) in
    let kind = octet l at 0 (omega arith) in
    let long = octet l at 1 (omega arith) in
    let whole = fits l at (λ e. omega (arith, e)) (omega (arith, long, length-take {A = ℕ}, length-drop {A = ℕ})) in
    simp (kind, long, add-zero) whole
