-- `response::fill_response` meets its contract: on zeros the header and both blocks stand one after another.
use Prim.Native.Nat.{ℕ, ◌+◌, ◌≤◌}
use mathlib.Core.List.{List}
use mathlib.Core.Path.{◌≡◌, sym, subst}
use native.Mathlib.Omega.{arith}
use lib.ListN.{length, length-append}
use Rattle.octets.specs.Part.{Wrote, padded, zeros}
use Rattle.octets.proofs.Parts.{padded_wrote, then}
use Rattle.response.specs.Response.{header, block, response}
use Rattle.response.proofs.Writing.{length_block, length_header, length_response}
use Rattle.response.proofs.fill_response.Goals as goal

-- the header and the two blocks are the response
one-after-another : (i : ℕ) (p n : List ℕ) {z m₁ m₂ m₃ : List ℕ} → Wrote z 0 (header 2 i (18 + length p + length n) 2) m₁ → Wrote m₁ 14 (block p) m₂
    → Wrote m₂ (16 + length p) (block n) m₃ → Wrote z 0 (response i p n) m₃
unfolding response
one-after-another i p n w₁ w₂ w₃ =
    let first = length_header 2 i (18 + length p + length n) 2 in
    let second = length-append (header 2 i (18 + length p + length n) 2) (block p) in
    let third = length_block p in
    then (then w₁ w₂ (omega arith)) w₃ (omega arith)

-- on zeros they are the response and zeros
zeros_behind : (i : ℕ) (p n : List ℕ) (room : ℕ) {z m : List ℕ} → 18 + length p + length n ≤ room → z ≡ zeros room → Wrote z 0 (response i p n) m
    → (m ≡ padded room (response i p n)) × (18 + length p + length n ≡ length (response i p n))
zeros_behind i p n room {z} {m} fits clear w =
    let size = length_response i p n in
    (padded_wrote room (response i p n) m (omega arith) (subst (λ (k : List ℕ). Wrote k 0 (response i p n) m) clear w), sym size)

pub returns : goal.returns
returns c =
    let all = zeros_behind _ _ _ _ c.requires.0 c.requires.1 (one-after-another _ _ _ c.put_header.ensures c.put_block.ensures c.put_block-2.ensures) in
    record { buffer = all.0; count = all.1 }
