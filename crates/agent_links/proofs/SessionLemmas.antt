-- Lemmas on sessions in memory: what their acceptors tell, and lists with one more element.
use Rattle.std.proofs.Common.{◌≡◌, ℕ, suc, ◌<◌, List, [], ◌∷◌, ◌++◌, map, drop, length, All, refl, ap, sym, subst, ◌∙◌}
use Rattle.std.proofs.Common.{Option, None, Some, Result, Ok, Err, IfSome, IfOk, option_to_list, get_or, get_or-drop}
use Rattle.std.proofs.Common.{◌+◌, arith, drop-drop}
use Rattle.std.proofs.lemmas.List.{map-append, drop-map}
use Rattle.std.proofs.lemmas.List.Elements.{All-append, All-nil, All-cons}
use Rattle.agent_links.specs.Shares.{share, shares, shared, part, parts}
use Rattle.agent_links.specs.Sessions.{Session, Gives, told_parts, silent}
use Rattle.agent_links.specs.Memory.{Halves, IsFresh, AcceptorState, FactoryState, session_of, silent_halves}
use Rattle.agent_links.proofs.ShareLemmas.{part_drop, parts_map, lengths_of_parts}

-- what holds of each element still does with one more
pub all_with_last : {X : Type 0} (P : X → Type 0) (xs : List X) (x : X) → All P xs → P x → All P (xs ++ x ∷ [])
all_with_last P xs x before last = All-append P xs (x ∷ []) before (All-cons P x [] last (All-nil P))

-- a function of each element, with one more
pub map_with_last : {X Y : Type 0} (f : X → Y) (xs : List X) (x : X) (ys : List Y) (y : Y) →
    map f xs ≡ ys → f x ≡ y → map f (xs ++ x ∷ []) ≡ ys ++ y ∷ []
map_with_last {X} {Y} f xs x ys y before last =
    map-append f xs (x ∷ []) ∙ ap (λ (zs : List Y). zs ++ f x ∷ []) before ∙ ap (λ (z : Y). ys ++ z ∷ []) last

-- a session that is taken from the front is fresh where all are, and so is one past the end
pub popped_fresh : (popped : Option Halves) (before after : List Halves) → All IsFresh before →
    before ≡ option_to_list popped ++ after → IfSome popped IsFresh
popped_fresh None before after fresh same = tt
popped_fresh (Some halves) before after fresh same =
    (subst (λ (all : List Halves). All IsFresh all) same fresh) 0 halves (omega arith)

pub silent_fresh : {E : Type 0} (made : Result Halves E) → IfOk made (λ halves. halves ≡ silent_halves) →
    IfOk made IsFresh
silent_fresh (Ok halves) same = subst (λ (h : Halves). IsFresh h) (sym same) (refl, refl)
silent_fresh (Err _) same = tt

-- the session that is taken from the front is the first that was told
pub first_given : (before after : List Halves) (halves : Halves) → before ≡ halves ∷ after →
    Gives (Some (map session_of before)) (Some halves.0.left) (Some halves.1.written) (Some (map session_of after))
first_given before after halves same =
    subst (λ (all : List Halves). Gives (Some (map session_of all)) (Some halves.0.left) (Some halves.1.written)
    (Some (map session_of after))) (sym same) (refl, refl, refl)

-- what acceptors tell, by the sessions that they have
told_of : (posts : List AcceptorState) →
    map (λ (post : AcceptorState). Some (map session_of post.sessions)) posts
    ≡ map Some (map (map session_of) (map (λ (post : AcceptorState). post.sessions) posts))
told_of [] = refl
told_of (post ∷ posts) =
    ap (λ (rest : List (Option (List Session))). Some (map session_of post.sessions) ∷ rest) (told_of posts)

pub parts_told : (posts : List AcceptorState) (list : List Halves) (sessions workers : ℕ) →
    map (λ (post : AcceptorState). post.sessions) posts ≡ parts silent_halves list sessions workers →
    map (λ (post : AcceptorState). Some (map session_of post.sessions)) posts
    ≡ told_parts (map session_of list) sessions workers
parts_told posts list sessions workers dealt =
    told_of posts
    ∙ ap (λ (all : List (List Halves)). map Some (map (map session_of) all)) dealt
    ∙ ap (λ (all : List (List Session)). map Some all)
    (parts_map session_of silent_halves list sessions workers workers)

-- how many sessions acceptors have left
left_of : (posts : List AcceptorState) →
    map (λ (post : AcceptorState). length post.sessions) posts
    ≡ map length (map (λ (post : AcceptorState). post.sessions) posts)
left_of [] = refl
left_of (post ∷ posts) = ap (λ (rest : List ℕ). length post.sessions ∷ rest) (left_of posts)

pub parts_counted : (posts : List AcceptorState) (list : List Halves) (sessions workers : ℕ) →
    map (λ (post : AcceptorState). post.sessions) posts ≡ parts silent_halves list sessions workers →
    map (λ (post : AcceptorState). length post.sessions) posts ≡ shares sessions workers
parts_counted posts list sessions workers dealt =
    left_of posts
    ∙ ap (λ (all : List (List Halves)). map length all) dealt
    ∙ lengths_of_parts silent_halves list sessions workers workers

-- what is left of the list is told
pub rest_told : (list : List Halves) (count : ℕ) →
    map session_of (drop count list) ≡ drop count (map session_of list)
rest_told list count = sym (drop-map session_of count list)

-- an acceptor of the first sessions of a list
abbrev pub acceptor_of : FactoryState → ℕ → AcceptorState
acceptor_of yard count = record {
  sessions = part silent_halves yard.sessions 0 count;
  failing = yard.failing_next;
  seconds = yard.seconds;
  calls = 0;
  faults = 0;
}

-- without the first sessions
abbrev pub without : FactoryState → ℕ → FactoryState
without yard count = record yard { sessions = drop count yard.sessions }

-- one session more is added to an acceptor
pub session_added : (before yard : FactoryState) (post added : AcceptorState) (halves : Halves) (count : ℕ) →
    post ≡ acceptor_of before count → yard ≡ without before count → halves ≡ get_or yard.sessions 0 silent_halves →
    added ≡ record post { sessions = post.sessions ++ halves ∷ [] } → added ≡ acceptor_of before (count + 1)
session_added before yard post added halves count is left next more =
    let place : count + 0 ≡ 0 + count = omega arith in
    let one_more : suc count ≡ count + 1 = omega arith in
    more
    ∙ ap (λ (p : AcceptorState). record p { sessions = p.sessions ++ halves ∷ [] }) is
    ∙ ap (λ (h : Halves). record (acceptor_of before count) {
      sessions = part silent_halves before.sessions 0 count ++ h ∷ [];
    })
    (next
    ∙ ap (λ (y : FactoryState). get_or y.sessions 0 silent_halves) left
    ∙ get_or-drop count before.sessions 0 silent_halves
    ∙ ap (λ (i : ℕ). get_or before.sessions i silent_halves) place)
    ∙ ap (λ (n : ℕ). acceptor_of before n) one_more

-- some sessions are taken, and then more
pub more_taken : (before yard after : FactoryState) (count more : ℕ) → yard ≡ without before count →
    after ≡ without yard more → after ≡ without before (count + more)
more_taken before yard after count more left taken =
    taken
    ∙ ap (λ (y : FactoryState). without y more) left
    ∙ ap (λ (list : List Halves). record before { sessions = list }) (drop-drop more count before.sessions)

-- the acceptor of a worker has its part of the list
pub part_given : (before yard : FactoryState) (post : AcceptorState) (sessions workers worker count : ℕ) →
    yard ≡ without before (shared sessions workers worker) → count ≡ share sessions workers worker →
    post ≡ acceptor_of yard count →
    post.sessions ≡ part silent_halves before.sessions (shared sessions workers worker) (share sessions workers worker)
part_given before yard post sessions workers worker count left counted is =
    ap (λ (p : AcceptorState). p.sessions) is
    ∙ ap (λ (y : FactoryState). part silent_halves y.sessions 0 count) left
    ∙ ap (λ (n : ℕ). part silent_halves (drop (shared sessions workers worker) before.sessions) 0 n) counted
    ∙ part_drop silent_halves before.sessions (shared sessions workers worker) (share sessions workers worker)

-- and what else it has is that of the yard
abbrev pub IsOf : FactoryState → AcceptorState → Type 0
IsOf yard post =
    (post.failing ≡ yard.failing_next) × (post.seconds ≡ yard.seconds) × (post.calls ≡ 0) × (post.faults ≡ 0)

pub rest_given : (before yard : FactoryState) (post : AcceptorState) (taken count : ℕ) → yard ≡ without before taken →
    post ≡ acceptor_of yard count →
    (post.failing ≡ before.failing_next) × (post.seconds ≡ before.seconds) × (post.calls ≡ 0) × (post.faults ≡ 0)
rest_given before yard post taken count left is = (
  ap (λ (p : AcceptorState). p.failing) is ∙ ap (λ (y : FactoryState). y.failing_next) left,
  ap (λ (p : AcceptorState). p.seconds) is ∙ ap (λ (y : FactoryState). y.seconds) left,
  ap (λ (p : AcceptorState). p.calls) is,
  ap (λ (p : AcceptorState). p.faults) is,
)
