-- The key of an address: computed from two words, and the same for the same address.
use Prim.Native.Nat.{ℕ, ◌+◌, ◌-◌, ◌*◌, ◌^◌, ◌≤◌}
use mathlib.Core.Bool.{true}
use mathlib.Core.List.{List}
use mathlib.Core.Path.{◌≡◌, refl, sym, ap, ap₂, ◌∙◌, subst}
use native.Mathlib.Nat.{add-zero}
use native.Mathlib.Omega.{arith}
use lib.Arith.{digits_div, digits_mod}
use lib.Bits.{bit_xor}
use lib.ListN.{length}
use Rattle.octets.specs.Digits.{field, low, number}
use Rattle.octets.specs.Laws.{below}
use Rattle.octets.specs.Part.{part, zeros_at}
use Rattle.octets.specs.Search.{all_of}
use Rattle.octets.proofs.Fields.{be_part, field_halves, number_zeros, part_below, zeros_back}
use Rattle.octets.proofs.Search.{and_right}
use Rattle.address.specs.Address.{is_version, number_of, same_address, version_of, width_of}
use Rattle.address.proofs.Numbers.{number_kept, same_parts, width_kept, width_most}
use Rattle.addresses.specs.Addresses.{address_from, is_address, version_from}
use Rattle.addresses.specs.Keys.{folded, key_at, swapped}
use Rattle.addresses.proofs.Versions.{halves}

-- eight octets are a word
abbrev Word : List ℕ → ℕ → ℕ → Type 0
Word l at x = (x ≡ low (part l at 8)) × (all_of (below 256) (part l at 8) ≡ true)

-- it is the number that they say, swapped
word_swapped : (l : List ℕ) (at x : ℕ) → at + 8 ≤ length l → Word l at x → x ≡ swapped (field l at 8)
unfolding swapped
word_swapped l at x fits w = w.0 ∙ ap low (sym (be_part l at 8 fits w.1))

pub key_words : (l : List ℕ) (at : ℕ) → at + 17 ≤ length l → (x y : ℕ) → Word l (at + 1) x → Word l (at + 9) y → bit_xor x y ≡ key_at l at
unfolding key_at folded
key_words l at fits x y p q =
    let high = field l (at + 1) 8 in
    let small = part_below l (at + 9) 8 (omega arith) q.1 in
    ap₂ bit_xor (word_swapped l (at + 1) x (omega arith) p) (word_swapped l (at + 9) y (omega arith) q)
    ∙ sym (ap folded (halves l at fits high (field l (at + 9) 8) refl refl) ∙ ap₂ (λ (h k : ℕ). bit_xor (swapped h) (swapped k)) (digits_div high small) (digits_mod high small))

-- the octets behind the version are the number's, and zeros below it
wide_number : (l : List ℕ) (at n : ℕ) → at + 17 ≤ length l → n ≤ 16 → zeros_at l (at + (1 + n)) (16 - n) ≡ true
    → field l (at + 1) 16 ≡ field l (at + 1) n * 256 ^ (16 - n)
unfolding field
wide_number l at n fits most none =
    let size : n + (16 - n) ≡ 16 = omega arith in
    let place : at + (1 + n) ≡ at + 1 + n = omega arith in
    let low : field l (at + 1 + n) (16 - n) ≡ 0 =
    ap (number 256) (sym (zeros_back l (at + 1 + n) (16 - n) (subst (λ (k : ℕ). zeros_at l k (16 - n) ≡ true) place none))) ∙ number_zeros (16 - n) in
    ap (field l (at + 1)) (sym size) ∙ field_halves l (at + 1) n (16 - n) (omega arith) ∙ ap (λ (k : ℕ). field l (at + 1) n * 256 ^ (16 - n) + k) low
    ∙ add-zero (field l (at + 1) n * 256 ^ (16 - n))

module _ (l : List ℕ) where
  -- the octets behind the version of an address, by its version and its number
  behind_version : (at : ℕ) → at + 17 ≤ length l → is_address l at ≡ true
      → field l (at + 1) 16 ≡ number_of (address_from l at) * 256 ^ (16 - width_of (version_of (address_from l at)))
  unfolding address_from is_address
  behind_version at fits w =
      let v = version_from l at in
      let n = width_of v in
      rw (number_kept v (field l (at + 1) n), width_kept v (field l (at + 1) n))
      (wide_number l at n fits (width_most v) (and_right (is_version v) (zeros_at l (at + (1 + n)) (16 - n)) w))

  module _ (p q : ℕ) (fits-p : p + 17 ≤ length l) (fits-q : q + 17 ≤ length l) (is-p : is_address l p ≡ true) (is-q : is_address l q ≡ true) where
    -- addresses that are alike have one key
    pub alike_key : same_address (address_from l p) (address_from l q) ≡ true → key_at l p ≡ key_at l q
    unfolding key_at
    alike_key e =
        let parts = same_parts (address_from l p) (address_from l q) e in
        ap folded
        (behind_version p fits-p is-p ∙ ap₂ (λ (x v : ℕ). x * 256 ^ (16 - width_of v)) parts.1 parts.0 ∙ sym (behind_version q fits-q is-q))
