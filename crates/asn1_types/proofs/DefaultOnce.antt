-- DefaultOnce: at a path stands one text of DEFAULT, of one module (X.680, section 25.1).
use Rattle.std.proofs.Common.{◌≡◌, ℕ, List, refl, sym}
use Rattle.std.proofs.Math.Path.{subst}
use Rattle.token_grammar.specs.Form.{Tree}
use Rattle.asn1_names.specs.DefaultTexts.{HasDefault}
use Rattle.asn1_names.specs.DefaultTexts.HasDefault.{alternative, component, element, here, named, tagged}
use Rattle.asn1_names.specs.ModuleTerms.{ModuleTerm, TypeTerm}
use Rattle.asn1_names.specs.ModuleTerms.PresenceTerm.{DefaultTerm}
use Rattle.asn1_names.specs.NameMeaning.{Meaning}
use Rattle.asn1_names.specs.ResolvedTypes.{HasDefaultText}
use Rattle.asn1_names.specs.ResolvedTypes.HasDefaultText.{of_type, of_value}
use Rattle.asn1_names.proofs.OneNumber.{at_type, same_types}
use Rattle.asn1_types.proofs.DefaultLaws.{never_empty, one_member}

one_text : (one other : Tree) → DefaultTerm one ≡ DefaultTerm other → one ≡ other
one_text one other same = cc

one_default : {ms : List ModuleTerm} {m v w : ℕ} {of : TypeTerm} {path : List ℕ} {one other : Tree} →
    HasDefault ms m of path v one → HasDefault ms m of path w other → (v ≡ w) × (one ≡ other)
one_default {one = one} {other = other} (here is) (here also) = (refl, one_text one other (one_member is also).1)
one_default (here is) (component also k) = absurd (never_empty k)
one_default (component is h) (here also) = absurd (never_empty h)
one_default {ms = ms} {m = m} {w = w} {other = other} (component {path = path} is h) (component also k) =
    one_default h (subst (λ t. HasDefault ms m t path w other) (sym (one_member is also).0) k)
one_default {ms = ms} {m = m} {w = w} {other = other} (alternative {path = path} is h) (alternative also k) =
    one_default h (subst (λ t. HasDefault ms m t path w other) (sym (one_member is also).0) k)
one_default (tagged h) (tagged k) = one_default h k
one_default (element h) (element k) = one_default h k
one_default {ms = ms} {w = w} {path = path} {other = other} (named {v = u} {i = i} {of = of} e h)
    (named {v = x} {i = j} {of = its} f k) =
    one_default h (at_type (λ y t. HasDefault ms y t path w other) u x of its (same_types _ u i x j of its e f) k)

pub one_default_text : {ms : List ModuleTerm} {meant : Meaning} {path : List ℕ} {v w : ℕ} {one other : Tree} →
    HasDefaultText ms meant path v one → HasDefaultText ms meant path w other → (v ≡ w) × (one ≡ other)
one_default_text (of_type h) (of_type k) = one_default h k
one_default_text (of_value h) (of_value k) = one_default h k
