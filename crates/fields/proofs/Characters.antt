-- The characters of fields: digits, and what is neither a tab nor a newline.
use Rattle.std.specs.Prelude.{Option, None, Some}
use Prim.Native.Nat.{ℕ, ◌≤◌, ◌<◌}
use mathlib.Core.Bool.{Bool, true, false, cond, not, ◌&&◌, ◌||◌, false≢true}
use mathlib.Core.List.{List, map}
use mathlib.Core.Logic.{◌⊎◌, inl, inr}
use mathlib.Core.Path.{◌≡◌, refl, sym, ap, ◌∙◌, subst}
use native.Mathlib.Omega.{arith}
use lib.Dec.{eqb, leb, ltb}
use lib.ListN.{length}
use borrow.Author.Tests.{eqb-true, leb-true, not-true}
use Rattle.octets.specs.Digits.{number}
use Rattle.octets.specs.Part.{same}
use Rattle.octets.specs.Search.{all, all_of, least}
use Rattle.octets.proofs.Parts.{same_equal}
use Rattle.octets.proofs.Search.{all_each, and_right}
use Rattle.text.specs.Text.{digit, is_digit, read_digits, decimal, decimal_width, short_enough}
use Rattle.text.proofs.Texts.{length_digit_text}
use Rattle.network.specs.declared.Plmn.{Plmn}
use Rattle.entry.specs.Field.{is_name, is_name_character, plain, plmn_from, plmn_of, priority_of}
use Rattle.fields.proofs.Joins.{Free, all_weaker, is_not, other}
use Rattle.std.proofs.lemmas.Option.{none-some, same_Some}

-- a text that is read has digits only
pub read_all : (b : ℕ) (l : List ℕ) (x : ℕ) → read_digits b l ≡ Some x → all_of (is_digit b) l ≡ true
unfolding read_digits
read_all b l x e = go (all_of (is_digit b) l) e
  where
    go : (t : Bool) → cond t (Some (number b (map digit l))) None ≡ Some x → t ≡ true
    go true h = refl
    go false h = absurd (none-some _ h)

-- what no octet below a digit or a name's character passes
no_digit : ℕ → ℕ → Bool
no_digit b c = not (is_digit b c)

no_name : ℕ → Bool
no_name c = not (is_name_character c)

module _ (p : ℕ → Bool) (n : ℕ) (below : (c : ℕ) → c < n → not (p c) ≡ true) (s : ℕ) (h : s < n) where
  passes_free : (l : List ℕ) → all_of p l ≡ true → Free s l
  passes_free l e = all_weaker p (is_not s) (λ c t. other s c (λ q. false≢true (sym (not-true (p c) (below c (omega arith))) ∙ t))) l e

digit_below : (c : ℕ) → c < 48 → not (is_digit 10 c) ≡ true
unfolding no_digit all is_digit digit
digit_below c h = all_each 48 (no_digit 10) refl c h

hex_below : (c : ℕ) → c < 48 → not (is_digit 16 c) ≡ true
unfolding no_digit all is_digit digit
hex_below c h = all_each 48 (no_digit 16) refl c h

name_below : (c : ℕ) → c < 45 → not (is_name_character c) ≡ true
unfolding no_name all is_name_character
name_below c h = all_each 45 no_name refl c h

module _ (s : ℕ) (l : List ℕ) (x : ℕ) where
  pub decimal_free : s < 48 → read_digits 10 l ≡ Some x → Free s l
  decimal_free h e = passes_free (is_digit 10) 48 digit_below s h l (read_all 10 l x e)

  pub hex_free : s < 48 → read_digits 16 l ≡ Some x → Free s l
  hex_free h e = passes_free (is_digit 16) 48 hex_below s h l (read_all 16 l x e)

pub name_free : (s : ℕ) (l : List ℕ) → s < 45 → is_name l ≡ true → Free s l
unfolding is_name
name_free s l h e = passes_free is_name_character 45 name_below s h l (and_right (leb 1 (length l) && leb (length l) 253) (all_of is_name_character l) e)

-- the fields of a PLMN
pub record PlmnFields (a b : List ℕ) (p : Plmn) : Type 0 where
  pub mcc_size : length a ≡ 3
  pub mnc_size : (length b ≡ 2) ⊎ (length b ≡ 3)
  pub mcc : ℕ
  pub mcc_read : read_digits 10 a ≡ Some mcc
  pub mnc : ℕ
  pub mnc_read : read_digits 10 b ≡ Some mnc
  pub is : record { mcc = mcc; mnc = mnc } ≡ p

pub plmn_fields : (a b : List ℕ) (p : Plmn) → plmn_of a b ≡ Some p → PlmnFields a b p
unfolding plmn_of plmn_from
plmn_fields a b p e = sizes (eqb (length a) 3) (eqb (length b) 2) (eqb (length b) 3) refl refl refl e
  where
    read : length a ≡ 3 → (length b ≡ 2) ⊎ (length b ≡ 3) → (x y : Option ℕ) → read_digits 10 a ≡ x → read_digits 10 b ≡ y → plmn_from x y ≡ Some p → PlmnFields a b p
    read e₁ e₂ None y q r s = absurd (none-some _ s)
    read e₁ e₂ (Some m) None q r s = absurd (none-some _ s)
    read e₁ e₂ (Some m) (Some k) q r s = record { mcc_size = e₁; mnc_size = e₂; mcc = m; mcc_read = q; mnc = k; mnc_read = r; is = same_Some (record { mcc = m; mnc = k }) p s }

    sizes : (t u v : Bool) → eqb (length a) 3 ≡ t → eqb (length b) 2 ≡ u → eqb (length b) 3 ≡ v
        → cond (t && (u || v)) (plmn_from (read_digits 10 a) (read_digits 10 b)) None ≡ Some p → PlmnFields a b p
    sizes false u v q r s f = absurd (none-some _ f)
    sizes true true v q r s f = read (eqb-true (length a) 3 q) (inl (eqb-true (length b) 2 r)) _ _ refl refl f
    sizes true false true q r s f = read (eqb-true (length a) 3 q) (inr (eqb-true (length b) 3 s)) _ _ refl refl f
    sizes true false false q r s f = absurd (none-some _ f)

-- how many digits a priority has
width_known : ℕ → Bool
width_known x = eqb (decimal_width x) (cond (ltb x 10) 1 (cond (ltb x 100) 2 3))

pub width_known_lem : (x : ℕ) → x ≤ 255 → decimal_width x ≡ cond (ltb x 10) 1 (cond (ltb x 100) 2 3)
unfolding width_known all decimal_width short_enough least
width_known_lem x h = eqb-true _ _ (all_each 256 width_known refl x (omega arith))

-- a priority is read, is small and is as long as its number
pub record PriorityField (l : List ℕ) (x : ℕ) : Type 0 where
  pub reads : read_digits 10 l ≡ Some x
  pub small : x ≤ 255
  pub size : length l ≡ decimal_width x

pub priority_field : (l : List ℕ) (x : ℕ) → priority_of l ≡ Some x → PriorityField l x
unfolding priority_of plain decimal
priority_field l x e = go (read_digits 10 l) refl e
  where
    sized : (y : ℕ) → read_digits 10 l ≡ Some y → (t u : Bool) → leb y 255 ≡ t → same l (decimal y) ≡ u → cond (t && u) (Some y) None ≡ Some x → PriorityField l x
    sized y r true true q s f = subst (PriorityField l) (same_Some y x f) (record { reads = r; small = leb-true y 255 q; size = ap length (same_equal l (decimal y) s) ∙ length_digit_text 10 (decimal_width y) y })
    sized y r true false q s f = absurd (none-some _ f)
    sized y r false u q s f = absurd (none-some _ f)

    go : (o : Option ℕ) → read_digits 10 l ≡ o → plain l o ≡ Some x → PriorityField l x
    go None r f = absurd (none-some _ f)
    go (Some y) r f = sized y r (leb y 255) (same l (decimal y)) refl refl f
