-- Errors and linked replies have the one form of their values.
use Rattle.std.proofs.Common.{◌≡◌, ℕ, ℤ, true, false, List, [], ◌∷◌, ◌++◌, append-nil, refl, sym, ap, ◌∙◌}
use Rattle.std.specs.Prelude.{map}
use Rattle.term_values.specs.CmipTypes.{action_type_id, attribute_id, set_of}
use Rattle.term_values.specs.Der.{encoded}
use Rattle.term_values.specs.Octets.{integer_contents}
use Rattle.term_values.specs.Oid.{oid_contents, subidentifier}
use Rattle.term_values.specs.Rearranged.{joined, rising}
use Rattle.term_values.specs.ResultSyntaxes.{action_error}
use Rattle.term_values.specs.Tag.{context, universal}
use Rattle.term_values.specs.Written.{der}
use Rattle.term_model.specs.declared.name.Rdn.{Rdn}
use Rattle.term_model.specs.declared.request.IdRef.{IdRef}
use Rattle.term_model.specs.declared.results.FailureReason.{FailureReason}
use Rattle.term_model.specs.declared.results.FailureReason.TheVariants as reasons
use Rattle.term_model.specs.FailureValues.{action_error_value}
use Rattle.term_model.specs.FailureValues.{reason_id, reason_number}
use Rattle.term_model.specs.Replies.{contents_of}
use Rattle.term_model.specs.ResultValues.{global_value, id_value, set_value}
use Rattle.result_contents.proofs.ResultForms.{set_written, told_written}
use Rattle.result_contents.specs.ResultOctets.{told_octets}

-- a SEQUENCE of two parts under the tag of its context
pair_written : (a b : List ℕ) → encoded true (universal 16) (a ++ b) ≡ encoded true (universal 16) (a ++ (b ++ []))
pair_written a b = ap (λ xs. encoded true (universal 16) (a ++ xs)) (sym (append-nil b))

pub action_error_written : (class : List ℕ) (name : List Rdn) (time : List ℕ) (status : ℤ) (action : IdRef)
    → told_octets class name time ++ encoded true (context 6)
    (encoded true (universal 16)
    (encoded false (universal 10) (integer_contents status) ++ der action_type_id (id_value action)))
    ≡ contents_of action_error (action_error_value class name time status action)
action_error_written class name time status action =
    let number = encoded false (universal 10) (integer_contents status) in
    let id = der action_type_id (id_value action) in
    ap (λ xs. told_octets class name time ++ encoded true (context 6) xs) (pair_written number id)
    ∙ told_written class name time (encoded true (context 6) (encoded true (universal 16) (number ++ (id ++ []))))

-- the contents octets of a reason's identifier
pub reason_contents : (reason : FailureReason) → oid_contents (reason_id reason)
    ≡ 0x88 ∷ 0x37 ∷ 0x09 ∷ 0x0A ∷ reason_number reason ∷ []
unfolding subidentifier
reason_contents reasons.Contained = refl
reason_contents reasons.NotDeletable = refl
reason_contents reasons.NotCreatable = refl
reason_contents reasons.Limit = refl
reason_contents reasons.Rule = refl

pub ids_written : (ids : List (List ℕ)) → encoded true (universal 17)
    (joined (rising (map (λ id. encoded false (context 0) (oid_contents id)) ids)))
    ≡ der (set_of attribute_id) (set_value attribute_id (map global_value ids))
ids_written ids = ap (λ xs. encoded true (universal 17) xs) (set_written (der attribute_id) global_value ids)
