-- ScriptLaws: the first lines of a text and its rest are one.
use Rattle.std.proofs.Common.{◌≡◌, ℕ, List, [], ◌∷◌, ◌++◌, None, refl, sym, ap, ◌∙◌, subst, append_assoc}
use Rattle.std.specs.Prelude.{flat_map}
use Rattle.std.proofs.lemmas.List.Elements.{All-head, All-tail}
use Rattle.term_model.specs.LineTexts.{line_feed}
use Rattle.agent_model.specs.declared.script_line.ScriptLine.{ScriptLine}
use Rattle.script_lines.specs.ScriptText.{BeginsNoLine, FirstLinesAreOne, IsLine, line_text, words_of}
use Rattle.script_lines.specs.LineParts.{IsLineIn, IsSplit, IsWithout}
use Rattle.script_lines.proofs.PartLaws.{Lacks, lacks, one_split, stands}
use Rattle.script_lines.proofs.LineLaws.{same_lines, words_lack}

shape : (next : ScriptLine) (others : List ℕ) → line_text next ++ others ≡ words_of next ++ (10 ∷ others)
shape next others = append_assoc (words_of next) line_feed others

-- what stands before the first line feed is no line
pub no_line : (text words behind : List ℕ) → IsSplit 10 text words behind → IsLineIn words None → BeginsNoLine text
no_line text words behind s none' next others is e =
    let same = one_split 10 words (words_of next) behind others (lacks 10 words s.without) (words_lack next is)
    (sym s.parts ∙ (e ∙ shape next others)) in
    none' next is same.0

-- there is no line feed
pub no_line_feed_there : (text : List ℕ) → Lacks 10 text → BeginsNoLine text
no_line_feed_there text h next others is e =
    stands 10 (words_of next) others (subst (Lacks 10) (e ∙ shape next others) h)

pub no_line_feed : (text : List ℕ) → IsWithout 10 text → BeginsNoLine text
no_line_feed text h = no_line_feed_there text (lacks 10 text h)

-- a text with a line feed is not empty
pub not_empty : (text words behind : List ℕ) → IsSplit 10 text words behind → text ≡ [] → ⊥
not_empty text words behind s e = stands 10 words behind (subst (Lacks 10) (sym e ∙ s.parts) tt)

-- ---- the first lines are one

joined : (next : ScriptLine) (lines : List ScriptLine) (rest : List ℕ)
    → flat_map line_text (next ∷ lines) ++ rest ≡ line_text next ++ (flat_map line_text lines ++ rest)
joined next lines rest = append_assoc (line_text next) (flat_map line_text lines) rest

pub first_lines_are_one : FirstLinesAreOne
first_lines_are_one text rest other [] [] h g = (refl, sym h.spelt ∙ g.spelt)
first_lines_are_one text rest other [] (m ∷ ms) h g =
    absurd (h.last m (flat_map line_text ms ++ other) (All-head IsLine m ms g.each)
    (sym h.spelt ∙ (g.spelt ∙ joined m ms other)))
first_lines_are_one text rest other (l ∷ ls) [] h g =
    absurd (g.last l (flat_map line_text ls ++ rest) (All-head IsLine l ls h.each)
    (sym g.spelt ∙ (h.spelt ∙ joined l ls rest)))
first_lines_are_one text rest other (l ∷ ls) (m ∷ ms) h g =
    let left = flat_map line_text ls ++ rest in
    let right = flat_map line_text ms ++ other in
    let hl = All-head IsLine l ls h.each in
    let hm = All-head IsLine m ms g.each in
    let e = sym (joined l ls rest) ∙ (sym h.spelt ∙ (g.spelt ∙ joined m ms other)) in
    let same = one_split 10 (words_of l) (words_of m) left right (words_lack l hl) (words_lack m hm)
    (sym (shape l left) ∙ (e ∙ shape m right)) in
    let one = first_lines_are_one left rest other ls ms
    (record { spelt = refl; each = All-tail IsLine l ls h.each; last = h.last })
    (record { spelt = same.1; each = All-tail IsLine m ms g.each; last = g.last }) in (
      ap (λ x. x ∷ ls) (same_lines l m hl hm same.0) ∙ ap (λ xs. m ∷ xs) one.0,
      one.1,
    )
