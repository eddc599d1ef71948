-- OneDefault: at a path stands one text of DEFAULT, of one module, and no second one (X.680, section 25.1).
use Rattle.std.specs.Prelude.{◌≡◌, ℕ, List}
use Rattle.token_grammar.specs.Form.{Tree}
use Rattle.asn1_names.specs.ModuleTerms.{ModuleTerm}
use Rattle.asn1_names.specs.NameMeaning.{Meaning}
use Rattle.asn1_names.specs.ResolvedTypes.{HasDefaultText}

abbrev pub OneDefaultStands : Type 0
OneDefaultStands = (ms : List ModuleTerm) (meant : Meaning) (path : List ℕ) (v w : ℕ) (one other : Tree) →
    HasDefaultText ms meant path v one → HasDefaultText ms meant path w other → (v ≡ w) × (one ≡ other)
