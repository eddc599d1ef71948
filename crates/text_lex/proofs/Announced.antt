-- The nearest tokens before the end announce a string.
use Rattle.std.proofs.Common.{◌≡◌, reverse, length, Bool, true, false, List, [], ◌∷◌, ◌++◌, sym, ap, ◌∙◌}
use Rattle.std.specs.Prelude.{codes, ◌||◌, ◌&&◌}
use Rattle.std.proofs.lemmas.Bool.{or_left}
use Rattle.std.proofs.lemmas.List.{reverse-append}
use Rattle.token_grammar.specs.declared.token.Token.{Token}
use Rattle.text_lex.specs.Lexed.{is_word, announces}

pub reverse_push : (tokens : List Token) (last : Token) → reverse (tokens ++ last ∷ []) ≡ last ∷ reverse tokens
reverse_push tokens last = reverse-append tokens (last ∷ [])

nearest : (last : Token) (before : List Token) → is_word last (codes "DESCRIPTION") ≡ true
    → announces (last ∷ before) ≡ true
unfolding announces
nearest last [] described = described
nearest last (previous ∷ _) described = or_left _ _ described

pub announces_last : (tokens before : List Token) (last : Token) → tokens ≡ before ++ last ∷ []
    → is_word last (codes "DESCRIPTION") ≡ true → announces (reverse tokens) ≡ true
announces_last tokens before last split described =
    ap (λ ts. announces (reverse ts)) split ∙ ap announces (reverse_push before last)
    ∙ nearest last (reverse before) described

pub announces_only : (tokens before : List Token) (last : Token) → tokens ≡ before ++ last ∷ [] → length before ≡ 0
    → announces (reverse tokens) ≡ is_word last (codes "DESCRIPTION")
unfolding announces
announces_only tokens [] last split empty =
    ap (λ ts. announces (reverse ts)) split ∙ ap announces (reverse_push [] last)
announces_only tokens (_ ∷ _) last split empty = absurd (cc)

pub announces_two : (tokens before front : List Token) (last previous : Token) → tokens ≡ before ++ last ∷ []
    → before ≡ front ++ previous ∷ []
    → announces (reverse tokens) ≡ (is_word last (codes "DESCRIPTION")
    || ((is_word previous (codes "DEFINED") && is_word last (codes "AS"))
    || (is_word previous (codes "PRESENT") && is_word last (codes "IF"))))
unfolding announces
announces_two tokens before front last previous split again =
    ap (λ ts. announces (reverse ts)) split ∙ ap announces (reverse_push before last)
    ∙ ap (λ ts. announces (last ∷ reverse ts)) again
    ∙ ap (λ ts. announces (last ∷ ts)) (reverse_push front previous)

pub announces_pair : (tokens before front : List Token) (last previous : Token) (defined as_word present if_word : Bool)
    → tokens ≡ before ++ last ∷ [] → before ≡ front ++ previous ∷ [] → is_word last (codes "DESCRIPTION") ≡ false
    → defined ≡ is_word previous (codes "DEFINED") → as_word ≡ is_word last (codes "AS")
    → present ≡ is_word previous (codes "PRESENT") → if_word ≡ is_word last (codes "IF")
    → ((defined && as_word) || (present && if_word)) ≡ announces (reverse tokens)
announces_pair tokens before front last previous defined as_word present if_word split again other d a p f =
    (λ x. (d x && a x) || (p x && f x))
    ∙ sym (announces_two tokens before front last previous split again
    ∙ ap (λ b. b || ((is_word previous (codes "DEFINED") && is_word last (codes "AS"))
    || (is_word previous (codes "PRESENT") && is_word last (codes "IF")))) other)
