-- Each template begins with a label.
use Rattle.std.proofs.Common.{◌≡◌, ℕ, zero, suc, true, false}
use Rattle.token_grammar.specs.declared.token.Token.{Token}
use Rattle.token_grammar.specs.TokenTests.{is_label}
use Rattle.token_grammar.proofs.Heads.{Firsts, Heads, skips, starts}
use Rattle.gdmo_members.specs.Templates.{templates}

-- a template begins with a label, and isn't spelt by no tokens
abbrev pub labels : Firsts
labels = record { begins = λ n token. is_label token; empty = λ n. false }

never_empty : (n : ℕ) → skips labels (templates n) ≡ true → false ≡ true
never_empty zero e = e
never_empty (suc zero) e = e
never_empty (suc (suc zero)) e = e
never_empty (suc (suc (suc zero))) e = e
never_empty (suc (suc (suc (suc zero)))) e = e
never_empty (suc (suc (suc (suc (suc zero))))) e = e
never_empty (suc (suc (suc (suc (suc (suc zero)))))) e = e
never_empty (suc (suc (suc (suc (suc (suc (suc zero))))))) e = e
never_empty (suc (suc (suc (suc (suc (suc (suc (suc zero)))))))) e = e
never_empty (suc (suc (suc (suc (suc (suc (suc (suc (suc n))))))))) e = e

begins : (n : ℕ) (token : Token) → starts labels (templates n) token ≡ true → is_label token ≡ true
begins zero token e = e
begins (suc zero) token e = e
begins (suc (suc zero)) token e = e
begins (suc (suc (suc zero))) token e = e
begins (suc (suc (suc (suc zero)))) token e = e
begins (suc (suc (suc (suc (suc zero))))) token e = e
begins (suc (suc (suc (suc (suc (suc zero)))))) token e = e
begins (suc (suc (suc (suc (suc (suc (suc zero))))))) token e = e
begins (suc (suc (suc (suc (suc (suc (suc (suc zero)))))))) token e = e
begins (suc (suc (suc (suc (suc (suc (suc (suc (suc n))))))))) token e = absurd (cc e)

pub labels_lead : Heads templates labels
labels_lead = record { empty = never_empty; first = begins }
