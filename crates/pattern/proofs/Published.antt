-- How a pattern is written in the usual notation: the o200k setting as the published pattern, the others as that pattern with document 01's replacements.
use mathlib.Core.Bool.{Bool, true, false, cond, not, ◌||◌}
use mathlib.Core.Path.{◌≡◌, refl}
use mathlib.Core.List.{List, [], ◌∷◌, map}
use Prim.Native.Nat.{ℕ, zero, suc}
use Prim.Native.Char.{code}
use Prim.Native.String.{String, [] as []ˢ, ◌∷◌ as ◌∷ˢ◌, ◌++◌}
use lib.Dec.{eqb}
use Rattle.classes.specs.Classes.{class_of, same, is_letter}
use Rattle.classes.specs.declared.Class.{Class}
use Rattle.classes.specs.declared.Class.TheVariants.{Upper, Lower, Caseless, Mark, Number, Whitespace, Other}
use Rattle.pattern.specs.Regex.{Item, char, kind, letter, non_white, Set, just, among, except, Piece, one, opt, many, some, up_to_three, not_ahead, any_case?, thirds, holds}
use Rattle.pattern.specs.Pattern.{alternatives, o200k, punct}

abbrev show_item : Item → String
show_item (char a) = cond (eqb (code a) 13) "\\r" (cond (eqb (code a) 10) "\\n" (a ∷ˢ []ˢ))
show_item (kind Upper) = "\\p{Lu}\\p{Lt}"
show_item (kind Lower) = "\\p{Ll}"
show_item (kind Caseless) = "\\p{Lm}\\p{Lo}"
show_item (kind Mark) = "\\p{M}"
show_item (kind Number) = "\\p{N}"
show_item (kind Whitespace) = "\\s"
show_item (kind Other) = "(no notation)"
show_item letter = "\\p{L}"
show_item non_white = "\\S"

abbrev show_all {ℓ} : {A : Type ℓ} → (A → String) → List A → String
show_all f [] = ""
show_all f (x ∷ xs) = f x ++ show_all f xs

-- with a bar between each two
abbrev bars : List String → String
bars [] = ""
bars (w ∷ []) = w
bars (w ∷ v ∷ ws) = w ++ ("|" ++ bars (v ∷ ws))

abbrev show_set : Set → String
show_set (just i) = show_item i
show_set (among is) = "[" ++ (show_all show_item is ++ "]")
show_set (except is) = "[^" ++ (show_all show_item is ++ "]")

abbrev show_piece : Piece → String
show_piece (one s) = show_set s
show_piece (opt s) = show_set s ++ "?"
show_piece (many s) = show_set s ++ "*"
show_piece (some s) = show_set s ++ "+"
show_piece (up_to_three s) = show_set s ++ "{1,3}"
show_piece (not_ahead s) = "(?!" ++ (show_set s ++ ")")
show_piece (any_case? ws vs) = "(?i:" ++ (bars ws ++ ")?")
show_piece (thirds s) = show_set s ++ "{((n - 1) mod 3) + 1 of n}"

abbrev show : List (List Piece) → String
show rs = bars (map (show_all show_piece) rs)

-- the o200k_base pattern of the public tiktoken sources
abbrev pub published : String
published = "[^\\r\\n\\p{L}\\p{N}]?[\\p{Lu}\\p{Lt}\\p{Lm}\\p{Lo}\\p{M}]*[\\p{Ll}\\p{Lm}\\p{Lo}\\p{M}]+(?i:'s|'t|'re|'ve|'m|'ll|'d)?|[^\\r\\n\\p{L}\\p{N}]?[\\p{Lu}\\p{Lt}\\p{Lm}\\p{Lo}\\p{M}]+[\\p{Ll}\\p{Lm}\\p{Lo}\\p{M}]*(?i:'s|'t|'re|'ve|'m|'ll|'d)?|\\p{N}{1,3}| ?[^\\s\\p{L}\\p{N}]+[\\r\\n/]*|\\s*[\\r\\n]+|\\s+(?!\\S)|\\s+"

pub o200k_is_published : show (alternatives o200k) ≡ published
o200k_is_published = refl

-- the published pattern with three parts open: the suffix (twice), how many digits, the slash
abbrev pub template : String → String → String → String
template suffix digits slash =
    "[^\\r\\n\\p{L}\\p{N}]?[\\p{Lu}\\p{Lt}\\p{Lm}\\p{Lo}\\p{M}]*[\\p{Ll}\\p{Lm}\\p{Lo}\\p{M}]+" ++ (suffix ++
    ("|[^\\r\\n\\p{L}\\p{N}]?[\\p{Lu}\\p{Lt}\\p{Lm}\\p{Lo}\\p{M}]+[\\p{Ll}\\p{Lm}\\p{Lo}\\p{M}]*" ++ (suffix ++
    ("|\\p{N}" ++ (digits ++
    ("| ?[^\\s\\p{L}\\p{N}]+[\\r\\n" ++ (slash ++
    "]*|\\s*[\\r\\n]+|\\s+(?!\\S)|\\s+")))))))

abbrev digits_text : ℕ → String
digits_text zero = ""
digits_text (suc zero) = "{1,3}"
digits_text (suc (suc d)) = "{((n - 1) mod 3) + 1 of n}"

pub template_is_published : template "(?i:'s|'t|'re|'ve|'m|'ll|'d)?" "{1,3}" "/" ≡ published
template_is_published = refl

pub others_are_replaced : (c : Bool) (d : ℕ) (s : Bool)
    → show (alternatives (record { contractions = c; digits = d; slash = s })) ≡ template (cond c "(?i:'s|'t|'re|'ve|'m|'ll|'d)?" "") (digits_text d) (cond s "/" "")
others_are_replaced true zero true = refl
others_are_replaced true zero false = refl
others_are_replaced true (suc zero) true = refl
others_are_replaced true (suc zero) false = refl
others_are_replaced true (suc (suc d)) true = refl
others_are_replaced true (suc (suc d)) false = refl
others_are_replaced false zero true = refl
others_are_replaced false zero false = refl
others_are_replaced false (suc zero) true = refl
others_are_replaced false (suc zero) false = refl
others_are_replaced false (suc (suc d)) true = refl
others_are_replaced false (suc (suc d)) false = refl

-- the set of alternative 4, which document 01 calls Mark and Other
pub punct_is_mark_or_other : (c : ℕ) → holds punct c ≡ same Mark (class_of c) || same Other (class_of c)
unfolding holds
punct_is_mark_or_other c = by (class_of c)
  where
    by : (k : Class) → not (same Whitespace k || (is_letter k || (same Number k || false))) ≡ same Mark k || same Other k
    by Upper = refl
    by Lower = refl
    by Caseless = refl
    by Mark = refl
    by Number = refl
    by Whitespace = refl
    by Other = refl
