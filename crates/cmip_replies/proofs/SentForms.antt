-- What is written is the one form of the value of its APDU.
use Rattle.std.proofs.Common.{◌≡◌, ℕ, ◌<◌, ℤ, pos, Bool, true, false, cond, List, [], ◌∷◌, ◌++◌, append-nil, refl, sym}
use Rattle.std.proofs.Common.{ap, ◌∙◌, arith, drop, reverse, take}
use Rattle.ber_tree.proofs.Backwards.{turned_behind}
use Rattle.std.specs.Prelude.{Option, None, Some, zero, suc, codes, nat_lt, length}
use Rattle.term_values.specs.CmipTypes.{at_most_one, explicit, object_instance, one, unnamed}
use Rattle.term_values.specs.Der.{encoded}
use Rattle.term_values.specs.Octets.{integer_contents}
use Rattle.term_values.specs.Oid.{oid_contents}
use Rattle.term_values.specs.PduSyntaxes.{invoke_id, problem, report_argument, return_error}
use Rattle.term_values.specs.Rearranged.{joined}
use Rattle.term_values.specs.Syntaxes.{TypeSyntax, TypeParts}
use Rattle.term_values.specs.Syntaxes.TypeParts.{NoParts}
use Rattle.term_values.specs.Syntaxes.TypeSyntax.{Any, Choice, NullType}
use Rattle.term_values.specs.Tag.{context, universal}
use Rattle.term_values.specs.Typed.TypedSlots.{NoSlots, Filled, Empty}
use Rattle.term_values.specs.Typed.TypedValue.{Int, Parts, Pick, Raw}
use Rattle.term_values.specs.Written.{der, part_encodings}
use Rattle.term_model.specs.declared.event.Event.{Event}
use Rattle.term_model.specs.declared.reply.Reply.{Reply}
use Rattle.term_model.specs.declared.reply.Reply.TheVariants as reply
use Rattle.term_model.specs.ApduWriting.{invoke_apdu}
use Rattle.term_model.specs.GetRequest.{class_octets, instance_octets}
use Rattle.term_model.specs.ObjectOperation.{time_octets}
use Rattle.term_model.specs.RemoteOperation.{error_apdu, frame, integer, reject_apdu, rejected_id}
use Rattle.term_model.specs.Apdu.{rejected}
use Rattle.term_model.specs.ResultValues.{local_instance}
use Rattle.term_model.specs.SentApdus.{event_value, parameter_slot, raw_slot, sent_event, sent_reject, sent_reply}
use Rattle.result_contents.proofs.ResultForms.{instance_written}
use Rattle.cmip_replies.specs.ReplyOctets.{argument_octets, happened_octets, info_octets, reply_apdu, sent_parameter}

nothing_behind : (xs : List ℕ) → xs ++ [] ≡ xs
nothing_behind xs = append-nil xs

long_or_short : (id code : ℤ) (parameter : List ℕ) (long : Bool)
    → der return_error
    (Parts (Filled (Int id) (Filled (Int code) (cond long (Empty NoSlots) (Filled (Raw parameter) NoSlots)))))
    ≡ error_apdu id code (cond long [] parameter)
long_or_short id code parameter true = refl
long_or_short id code parameter false =
    ap (λ xs. encoded true (context 3) (integer id ++ (integer code ++ xs))) (nothing_behind parameter)

-- the parameter of an error, where there is one that is not too long
error_sent : (id code : ℤ) (parameter : Option (List ℕ))
    → der return_error (Parts (Filled (Int id) (Filled (Int code) (parameter_slot parameter NoSlots))))
    ≡ error_apdu id code (sent_parameter parameter)
error_sent id code None = refl
error_sent id code (Some parameter) = long_or_short id code parameter (nat_lt 32768 (length parameter))

pub reply_sent : (id op own : ℤ) (answer : Reply) → sent_reply id op own answer ≡ frame (reply_apdu id op own answer)
unfolding sent_reply
reply_sent id op own (reply.Single result) =
    ap (λ xs. frame (encoded true (context 2) (integer id ++ xs)))
    (nothing_behind (encoded true (universal 16) (integer op ++ (result ++ [])))
    ∙ ap (λ xs. encoded true (universal 16) (integer op ++ xs)) (nothing_behind result))
reply_sent id op own (reply.Linked number contents) =
    ap (λ xs. frame (encoded true (context 1)
    (integer own ++ (encoded false (context 0) (integer_contents id) ++ (integer (pos 2) ++ xs)))))
    (nothing_behind (encoded true (context number) contents))
reply_sent id op own reply.Empty =
    ap (λ xs. frame (encoded true (context 2) xs)) (nothing_behind (integer id))
reply_sent id op own (reply.Error error) = ap frame (error_sent id error.code error.parameter)

-- the information of a report, the last component of its argument
abbrev info_part : TypeParts
info_part = at_most_one (codes "eventInfo") (explicit 8 Any) NoParts

-- the invoke id of what is rejected
abbrev rejected_choice : TypeSyntax
rejected_choice = Choice (one unnamed invoke_id (one unnamed NullType NoParts))

info_sent : (info : Option (List ℕ)) → joined (part_encodings info_part (raw_slot info NoSlots)) ≡ info_octets info
info_sent None = refl
info_sent (Some info) = nothing_behind (encoded true (context 8) info)

pub argument_sent : (event : Event) → argument_octets event ≡ der report_argument (event_value event)
argument_sent event =
    ap (λ xs. encoded true (universal 16)
    (class_octets event.class ++ (xs ++ (time_octets event.time
    ++ (encoded false (context 6) (oid_contents event.kind) ++ info_octets event.info)))))
    (instance_written event.name)
    ∙ ap (λ xs. encoded true (universal 16)
    (class_octets event.class ++ (der object_instance (local_instance event.name) ++ (time_octets event.time
    ++ (encoded false (context 6) (oid_contents event.kind) ++ xs)))))
    (sym (info_sent event.info))

pub event_sent : (own : ℤ) (event : Event)
    → sent_event own event ≡ frame (invoke_apdu own None (pos 0) (argument_octets event))
event_sent own event =
    ap (λ xs. frame (encoded true (context 1) (integer own ++ (integer (pos 0) ++ xs))))
    (nothing_behind (der report_argument (event_value event)) ∙ sym (argument_sent event))

rejected_sent : (id : Option ℤ) → der rejected_choice (rejected id) ≡ rejected_id id
rejected_sent None = refl
rejected_sent (Some id) = refl

problem_sent : (class : ℕ) (number : ℤ) → class < 4
    → der problem (Pick class (Int number)) ≡ encoded false (context class) (integer_contents number)
problem_sent zero number within = refl
problem_sent (suc zero) number within = refl
problem_sent (suc (suc zero)) number within = refl
problem_sent (suc (suc (suc zero))) number within = refl
problem_sent (suc (suc (suc (suc n)))) number within = absurd (omega (arith, within))

pub reject_sent : (id : Option ℤ) (class : ℕ) (number : ℤ) → class < 4
    → sent_reject id class number ≡ frame (reject_apdu id class number)
reject_sent id class number within =
    ap (λ xs. frame (encoded true (context 4) (xs ++ (der problem (Pick class (Int number)) ++ []))))
    (rejected_sent id)
    ∙ ap (λ xs. frame (encoded true (context 4) (rejected_id id ++ xs)))
    (nothing_behind (der problem (Pick class (Int number))) ∙ problem_sent class number within)

-- the frame of a reply under numbers that are equal to others
pub same_frame : (answer : Reply) {a b c d e f : ℤ} → a ≡ d → b ≡ e → c ≡ f
    → frame (reply_apdu a b c answer) ≡ frame (reply_apdu d e f answer)
same_frame answer {b = b} {c = c} {d = d} {e = e} first second third =
    ap (λ z. frame (reply_apdu z b c answer)) first
    ∙ (ap (λ z. frame (reply_apdu d z c answer)) second ∙ ap (λ z. frame (reply_apdu d e z answer)) third)

-- what stands behind a place is turned round, and is these octets
pub turned_frame : (old octets other : List ℕ) {written now : List ℕ} {start : ℕ} → start ≡ length old
    → written ≡ old ++ reverse other → other ≡ octets
    → now ≡ take start written ++ reverse (drop start written) → now ≡ old ++ octets
turned_frame old octets other begin is same last =
    turned_behind old octets begin (is ∙ ap (λ xs. old ++ reverse xs) same) last
