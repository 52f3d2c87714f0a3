-- The words of a line, one after another.
use Rattle.std.proofs.Common.{◌≡◌, ℕ, suc, ◌<◌, List, [], ◌∷◌, ◌++◌, take, drop, get_or, map, length, ap, sym, ◌∙◌, append_assoc, append-nil, codes}
use Rattle.std.specs.List.{flat_map}
use Rattle.std.proofs.Math.Seq.{split_at}
use Rattle.std.proofs.lemmas.Grind.{flat_map-append}
use Rattle.std.proofs.lemmas.List.{map-append}
use Rattle.lines.specs.Line.{behind_space, line_of}
use Rattle.lines.specs.declared.word.Word.{Word}
use Rattle.lines.specs.declared.word.Word.TheVariants.{Text}
use Rattle.lines.specs.WordText.{word_text}

-- the texts of some things, each behind a space
abbrev pub spaced : {A : Type 0} → (A → List ℕ) → List A → List ℕ
spaced text xs = flat_map behind_space (map text xs)

pub spaced-append : {A : Type 0} (text : A → List ℕ) (xs ys : List A) → spaced text (xs ++ ys) ≡ spaced text xs ++ spaced text ys
spaced-append text xs ys = ap (flat_map behind_space) (map-append text xs ys) ∙ flat_map-append behind_space (map text xs) (map text ys)

-- one of them, between those before it and those after it
pub spaced_around : {A : Type 0} (text : A → List ℕ) (xs before after : List A) (x : A) → xs ≡ before ++ x ∷ after
    → spaced text xs ≡ spaced text before ++ behind_space (text x) ++ spaced text after
spaced_around text xs before after x parts =
    ap (spaced text) parts ∙ spaced-append text before (x ∷ after)
    ∙ sym (append_assoc (spaced text before) (behind_space (text x)) (spaced text after))

-- one more, at the end
pub spaced_more : {A : Type 0} (text : A → List ℕ) (xs : List A) (x : A) → spaced text (xs ++ x ∷ []) ≡ spaced text xs ++ behind_space (text x)
spaced_more text xs x = spaced-append text xs (x ∷ []) ∙ ap (λ (l : List ℕ). spaced text xs ++ l) (append-nil (behind_space (text x)))

-- some word
abbrev pub no_word : Word
no_word = Text (record { ref_ptr = (0, 0); now = [] })

-- one of the words of a slice
pub words_around : (words : List Word) (i : ℕ) (d : Word) → i < length words
    → spaced word_text words ≡ spaced word_text (take i words) ++ behind_space (word_text (get_or words i d)) ++ spaced word_text (drop (suc i) words)
words_around words i d within = spaced_around word_text words (take i words) (drop (suc i) words) (get_or words i d) (split_at words i d within)

-- a line of some words, and of more that stand in a list of their own
pub line_parts : (kind : List ℕ) (words others : List (List ℕ))
    → line_of (kind ∷ words ++ others) ≡ kind ++ flat_map behind_space words ++ flat_map behind_space others ++ codes "\n"
line_parts kind words others =
    ap (λ (x : List ℕ). kind ++ x ++ codes "\n") (flat_map-append behind_space words others)
    ∙ ap (λ (x : List ℕ). x ++ codes "\n") (sym (append_assoc kind (flat_map behind_space words) (flat_map behind_space others)))
