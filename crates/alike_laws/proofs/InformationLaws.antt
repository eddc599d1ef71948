-- InformationLaws: in documents that were read fields of AND ATTRIBUTE IDS stand only behind WITH INFORMATION SYNTAX
-- (X.722, section 8.11; docs/PROFILE.md, section 2).
use Rattle.std.specs.Prelude.{◌≡◌, false, Option, None, Some, refl}
use Rattle.std.proofs.lemmas.Bool.{true≢false}
use Rattle.gdmo_members.specs.declared.notification.Information.{Information}
use Rattle.gdmo_names.specs.MemberViews.{information_fields, information_type}
use Rattle.gdmo_names.specs.PartTerms.{body_of, kind_of_body}
use Rattle.gdmo_names.specs.PartViews.{part_terms}
use Rattle.gdmo_names.specs.TemplateTerms.{BodyTerm, TemplateTerm}
use Rattle.gdmo_names.specs.TemplateTerms.BodyTerm.{ActionBody, AttributeBody, BehaviourBody, BindingBody, ClassBody}
use Rattle.gdmo_names.specs.TemplateTerms.BodyTerm.{GroupBody, NotificationBody, PackageBody, ParameterBody}
use Rattle.gdmo_names.specs.declared.parsed.Parsed.{Parsed}
use Rattle.registered_laws.specs.RegisteredKinds.{is_always_registered}
use Rattle.registered_laws.proofs.ClassKinds.{all_of_texts}
use Rattle.registered_laws.proofs.MemberKinds.{IsOfText, is_notification}
use Rattle.registered_laws.proofs.MemberKinds.IsOfText.{of_notification, of_other_kind, of_registered}
use Rattle.alike_laws.specs.InformationFields.{HasInformation, HaveInformation, StandBeside}

-- what is no notification has no fields
of_another : (body : BodyTerm) → is_notification body ≡ false → HasInformation body
of_another (NotificationBody _ _ _ _ _) other = absurd (true≢false other)
of_another (ClassBody _ _ _) other = tt
of_another (PackageBody _ _ _ _ _) other = tt
of_another (ParameterBody _ _) other = tt
of_another (BindingBody _ _ _ _ _ _ _ _) other = tt
of_another (AttributeBody _ _ _ _) other = tt
of_another (GroupBody _ _) other = tt
of_another BehaviourBody other = tt
of_another (ActionBody _ _ _ _ _) other = tt

other_kind : (body : BodyTerm) → is_always_registered (kind_of_body body) ≡ false → is_notification body ≡ false
other_kind (NotificationBody _ _ _ _ _) other = other
other_kind (ClassBody _ _ _) other = refl
other_kind (PackageBody _ _ _ _ _) other = refl
other_kind (ParameterBody _ _) other = refl
other_kind (BindingBody _ _ _ _ _ _ _ _) other = refl
other_kind (AttributeBody _ _ _ _) other = refl
other_kind (GroupBody _ _) other = refl
other_kind BehaviourBody other = refl
other_kind (ActionBody _ _ _ _ _) other = refl

text_beside : (x : Option Information) → StandBeside (information_type x) (information_fields x)
text_beside None = refl
text_beside (Some x) = tt

informed : (x : TemplateTerm) → IsOfText x → HasInformation (body_of x)
informed _ (of_other_kind label identifier body other) = of_another body (other_kind body other)
informed _ (of_registered label own body other) = of_another body other
informed _ (of_notification x) = text_beside x.information

pub have_information : (parts : Parsed) → HaveInformation (part_terms parts)
have_information parts by stands = informed by.template (all_of_texts parts by stands)
