-- The forms of the nine templates are decided by their first two tokens: X.722, section 8.
use Rattle.std.proofs.Common.{◌≡◌, ℕ, zero, suc, true, Option}
use Rattle.token_grammar.specs.declared.token.Token.{Token}
use Rattle.grammar_laws.specs.Opening.{opening}
use Rattle.grammar_laws.specs.Decided.{AllDecided, IsDecided, IsWithin}
use Rattle.gdmo_members.specs.Templates.{templates}
use Rattle.template_laws.proofs.TemplateTests.{openings}
use Rattle.template_laws.proofs.MembersDecided.{behaviour_decided, attribute_decided, parameter_decided, group_decided}
use Rattle.template_laws.proofs.MembersDecided.{action_decided, notification_decided}
use Rattle.template_laws.proofs.PackagesDecided.{package_decided}
use Rattle.template_laws.proofs.ClassesDecided.{class_decided, name_binding_decided}

-- what holds of each opening
within : (n : ℕ) → IsWithin (opening openings (templates n)) (openings n)
within zero =
    record { empty = λ e. e; single = λ e. e; alone = λ t e. e; first = λ t e. e; second = λ t e. e; two = λ t u e. e }
within (suc zero) =
    record { empty = λ e. e; single = λ e. e; alone = λ t e. e; first = λ t e. e; second = λ t e. e; two = λ t u e. e }
within (suc (suc zero)) =
    record { empty = λ e. e; single = λ e. e; alone = λ t e. e; first = λ t e. e; second = λ t e. e; two = λ t u e. e }
within (suc (suc (suc zero))) =
    record { empty = λ e. e; single = λ e. e; alone = λ t e. e; first = λ t e. e; second = λ t e. e; two = λ t u e. e }
within (suc (suc (suc (suc zero)))) =
    record { empty = λ e. e; single = λ e. e; alone = λ t e. e; first = λ t e. e; second = λ t e. e; two = λ t u e. e }
within (suc (suc (suc (suc (suc zero))))) =
    record { empty = λ e. e; single = λ e. e; alone = λ t e. e; first = λ t e. e; second = λ t e. e; two = λ t u e. e }
within (suc (suc (suc (suc (suc (suc zero)))))) =
    record { empty = λ e. e; single = λ e. e; alone = λ t e. e; first = λ t e. e; second = λ t e. e; two = λ t u e. e }
within (suc (suc (suc (suc (suc (suc (suc zero))))))) =
    record { empty = λ e. e; single = λ e. e; alone = λ t e. e; first = λ t e. e; second = λ t e. e; two = λ t u e. e }
within (suc (suc (suc (suc (suc (suc (suc (suc zero)))))))) =
    record { empty = λ e. e; single = λ e. e; alone = λ t e. e; first = λ t e. e; second = λ t e. e; two = λ t u e. e }
within (suc (suc (suc (suc (suc (suc (suc (suc (suc n))))))))) =
    record { empty = λ e. e; single = λ e. e; alone = λ t e. e; first = λ t e. e; second = λ t e. e; two = λ t u e. e }

closed : (n : ℕ) (t : Token) (u : Option Token) → (opening openings (templates n)).on t u ≡ true
    → (openings n).on t u ≡ true
closed zero t u e = e
closed (suc zero) t u e = e
closed (suc (suc zero)) t u e = e
closed (suc (suc (suc zero))) t u e = e
closed (suc (suc (suc (suc zero)))) t u e = e
closed (suc (suc (suc (suc (suc zero))))) t u e = e
closed (suc (suc (suc (suc (suc (suc zero)))))) t u e = e
closed (suc (suc (suc (suc (suc (suc (suc zero))))))) t u e = e
closed (suc (suc (suc (suc (suc (suc (suc (suc zero)))))))) t u e = e
closed (suc (suc (suc (suc (suc (suc (suc (suc (suc n))))))))) t u e = e

each_decided : (n : ℕ) → IsDecided openings (templates n)
each_decided zero = behaviour_decided
each_decided (suc zero) = attribute_decided
each_decided (suc (suc zero)) = parameter_decided
each_decided (suc (suc (suc zero))) = group_decided
each_decided (suc (suc (suc (suc zero)))) = action_decided
each_decided (suc (suc (suc (suc (suc zero))))) = notification_decided
each_decided (suc (suc (suc (suc (suc (suc zero)))))) = package_decided
each_decided (suc (suc (suc (suc (suc (suc (suc zero))))))) = class_decided
each_decided (suc (suc (suc (suc (suc (suc (suc (suc zero)))))))) = name_binding_decided
each_decided (suc (suc (suc (suc (suc (suc (suc (suc (suc n))))))))) = tt

pub templates_decided : AllDecided templates openings
templates_decided = record { within = within; on = closed; decided = each_decided }
