-- Candidates and the tokens that they name: what holds between the events said so far and the state.
use Rattle.std.specs.Prelude.{◌+◌, ◌<◌, ◌≤◌, suc, zero, ℕ, Bool, false, true, List, [], ◌++◌, ◌∷◌, ◌≡◌, refl, drop, get_or, length, set}
use Rattle.std.proofs.Common.{◌∙◌, arith, length-append, length-drop, length-set, get_or-set_other}
use Rattle.std.proofs.Math.ListN.{get_or-append}
use Rattle.std.proofs.Math.Seq.{get_or-append_seam}
use Rattle.yaml_text.specs.declared.Mark.{Mark}
use Rattle.yaml_text.specs.Mark.{Place, origin}
use Rattle.yaml_text.specs.DecodeLaws.{NoNul}
use Rattle.yaml_text.specs.Test.{by_pick}
use Rattle.yaml_lexeme.specs.Token.{Kind, Token, empty_token}
use Rattle.yaml_scan.specs.declared.Candidate.{Candidate}
use Rattle.yaml_scan.specs.declared.Candidate.TheVariants.{Absent, Possible}
use Rattle.yaml_scan.specs.declared.Level.{Level}
use Rattle.yaml_scan.specs.Keys.{set_key, top_key}
use Rattle.yaml_scan.specs.State.{Event, State, block_ends, empty_if, in_flow, mark_of, put, put_before, puts}

-- a token that was given: where it starts, and whether tokens were put in before it
pub record GivenToken : Type 0 where
  pub start : Mark
  pub noted : Bool

abbrev pub fresh : Mark → GivenToken
fresh m = record { start = m; noted = false }

-- token n starts at the mark, and none was put in before it
abbrev pub Free : List GivenToken → ℕ → Mark → Type 0
Free gs n m = (n < length gs) × (get_or gs n (fresh origin) ≡ fresh m)

-- tokens are put in before token n
abbrev pub note_at : ℕ → List GivenToken → List GivenToken
note_at n gs = set gs n (record { start = (get_or gs n (fresh origin)).start; noted = true })

-- the tokens that were given, behind those of gs
unfoldable pub given : List GivenToken → List Event → List GivenToken
given gs [] = gs
given gs (put t ∷ es) = given (gs ++ (fresh t.start ∷ [])) es
given gs (put_before n ts ∷ es) = given (note_at n gs) es

-- tokens that are empty, at the mark
abbrev pub EmptyAt : Mark → List Token → Type 0
EmptyAt m [] = Unit {0}
EmptyAt m (t ∷ ts) = (t ≡ empty_token t.kind m) × EmptyAt m ts

-- what goes in before a token goes in before one that was given, once, and is empty at its start
unfoldable pub Placed : List GivenToken → List Event → Type 0
Placed gs [] = Unit {0}
Placed gs (put t ∷ es) = Placed (gs ++ (fresh t.start ∷ [])) es
Placed gs (put_before n ts ∷ es) = (m : Mark) × Free gs n m × EmptyAt m ts × Placed (note_at n gs) es

-- a candidate names a token that was given, and starts where that starts
abbrev pub Known : List GivenToken → Candidate → Type 0
Known gs Absent = Unit {0}
Known gs (Possible required n k) = Free gs n k

abbrev pub AllKnown : List GivenToken → List Candidate → Type 0
AllKnown gs [] = Unit {0}
AllKnown gs (k ∷ ks) = Known gs k × AllKnown gs ks

-- the numbers of the candidates fall from b down
abbrev pub Fall : ℕ → List Candidate → Type 0
Fall b [] = Unit {0}
Fall b (Absent ∷ ks) = Fall b ks
Fall b (Possible required n k ∷ ks) = (n < b) × Fall n ks

-- what holds before each token: so many were given, there is a candidate for each level and the outermost, each is known by a number of its own,
-- and no character is 0
pub record Ready (gs : List GivenToken) (count : ℕ) (ks : List Candidate) (ls : List Level) (p : Place) : Type 0 where
  pub counted : count ≡ length gs
  pub levelled : length ks ≡ suc (length ls)
  pub known : AllKnown gs ks
  pub ordered : Fall count ks
  pub no_nul : NoNul p.rest

abbrev pub ReadyState : List GivenToken → State → Type 0
ReadyState gs s = Ready gs s.count s.keys s.levels s.place

-- the candidate's line is over
abbrev pub Over : Mark → Candidate → Type 0
Over m Absent = Unit {0}
Over m (Possible required n k) = k.line < m.line

-- what holds between two steps: the same; or the candidate is a block scalar's, which may start elsewhere, but whose line is over
pub data Sound (gs : List GivenToken) (s : State) : Type 0 where
  ready : ReadyState gs s → Sound gs s
  late : in_flow s ≡ false → Over (mark_of s) (top_key s.keys) → Ready gs s.count (set_key Absent s.keys) s.levels s.place → Sound gs s

-- laws of what was given

pub given_length : (gs : List GivenToken) (es : List Event) → length (given gs es) ≡ length gs + puts es
unfolding given puts
given_length gs [] = omega arith
given_length gs (put t ∷ es) =
    let h = given_length (gs ++ (fresh t.start ∷ [])) es in
    let k = length-append gs (fresh t.start ∷ []) in
    omega arith
given_length gs (put_before n ts ∷ es) =
    let h = given_length (note_at n gs) es in
    let k = length-set gs n (record { start = (get_or gs n (fresh origin)).start; noted = true }) in
    omega arith

pub given_append : (gs : List GivenToken) (es fs : List Event) → given gs (es ++ fs) ≡ given (given gs es) fs
unfolding given
given_append gs [] fs = refl
given_append gs (put t ∷ es) fs = given_append (gs ++ (fresh t.start ∷ [])) es fs
given_append gs (put_before n ts ∷ es) fs = given_append (note_at n gs) es fs

pub placed_append : (gs : List GivenToken) (es fs : List Event) → Placed gs es → Placed (given gs es) fs → Placed gs (es ++ fs)
unfolding given Placed
placed_append gs [] fs h k = k
placed_append gs (put t ∷ es) fs h k = placed_append (gs ++ (fresh t.start ∷ [])) es fs h k
placed_append gs (put_before n ts ∷ es) fs h k = (h.0, h.1, h.2, placed_append (note_at n gs) es fs h.3 k)

-- events that only give tokens

unfoldable pub OnlyPuts : List Event → Type 0
OnlyPuts [] = Unit {0}
OnlyPuts (put t ∷ es) = OnlyPuts es
OnlyPuts (put_before n ts ∷ es) = ⊥

pub only_append : (es fs : List Event) → OnlyPuts es → OnlyPuts fs → OnlyPuts (es ++ fs)
unfolding OnlyPuts
only_append [] fs h k = k
only_append (put t ∷ es) fs h k = only_append es fs h k
only_append (put_before n ts ∷ es) fs h k = absurd h

pub only_ends : (n : ℕ) (m : Mark) → OnlyPuts (block_ends n m)
unfolding OnlyPuts
only_ends zero m = tt
only_ends (suc n) m = only_ends n m

pub only_if : (b : Bool) (k : Kind) (m : Mark) → OnlyPuts (empty_if b k m)
unfolding OnlyPuts
only_if b k m = by_pick OnlyPuts b _ _ tt tt

pub only_one : (t : Token) → OnlyPuts (put t ∷ [])
unfolding OnlyPuts
only_one t = tt

pub only_placed : (gs : List GivenToken) (es : List Event) → OnlyPuts es → Placed gs es
unfolding OnlyPuts Placed
only_placed gs [] h = tt
only_placed gs (put t ∷ es) h = only_placed (gs ++ (fresh t.start ∷ [])) es h
only_placed gs (put_before n ts ∷ es) h = absurd h

-- a candidate stays known when a token is given

pub known_more : (gs : List GivenToken) (g : GivenToken) (ks : List Candidate) → AllKnown gs ks → AllKnown (gs ++ (g ∷ [])) ks
known_more gs g [] h = tt
known_more gs g (Absent ∷ ks) h = (tt, known_more gs g ks h.1)
known_more gs g (Possible required n k ∷ ks) h =
    let e = length-append gs (g ∷ []) in
    let f = h.0 in
    ((omega arith, get_or-append gs (g ∷ []) (fresh origin) n f.0 ∙ f.1), known_more gs g ks h.1)

pub stays_known : (gs : List GivenToken) (es : List Event) (ks : List Candidate) → OnlyPuts es → AllKnown gs ks → AllKnown (given gs es) ks
unfolding given OnlyPuts
stays_known gs [] ks o h = h
stays_known gs (put t ∷ es) ks o h = stays_known (gs ++ (fresh t.start ∷ [])) es ks o (known_more gs (fresh t.start) ks h)
stays_known gs (put_before n ts ∷ es) ks o h = absurd o

-- and when tokens are put in before one that came later

pub fall_less : (a b : ℕ) (ks : List Candidate) → a ≤ b → Fall a ks → Fall b ks
fall_less a b [] h f = tt
fall_less a b (Absent ∷ ks) h f = fall_less a b ks h f
fall_less a b (Possible required n k ∷ ks) h f = (omega arith, f.1)

pub noted_known : (gs : List GivenToken) (n : ℕ) (ks : List Candidate) → Fall n ks → AllKnown gs ks → AllKnown (note_at n gs) ks
noted_known gs n [] f h = tt
noted_known gs n (Absent ∷ ks) f h = (tt, noted_known gs n ks f h.1)
noted_known gs n (Possible required j k ∷ ks) f h =
    let g : GivenToken = record { start = (get_or gs n (fresh origin)).start; noted = true } in
    let i = f.0 in
    let e = h.0 in
    let l = length-set gs n g in
    ((omega arith, get_or-set_other gs n j g (fresh origin) (λ z. absurd (omega arith)) ∙ e.1), noted_known gs n ks (fall_less j n ks (omega arith) f.1) h.1)

-- the token that comes next is known by its number
pub known_next : (gs : List GivenToken) (n : ℕ) (m : Mark) → n ≡ length gs → Free (gs ++ (fresh m ∷ [])) n m
known_next gs n m e =
    let f = length-append gs (fresh m ∷ []) in
    (omega arith, rw e (get_or-append_seam gs (fresh m) [] (fresh origin)))

-- a state without its candidate

known_drop : (gs : List GivenToken) (ks : List Candidate) → AllKnown gs ks → AllKnown gs (drop 1 ks)
known_drop gs [] h = h
known_drop gs (k ∷ ks) h = h.1

pub fall_drop : (b : ℕ) (ks : List Candidate) → Fall b ks → Fall b (drop 1 ks)
fall_drop b [] f = f
fall_drop b (Absent ∷ ks) f = f
fall_drop b (Possible required n k ∷ ks) f = fall_less n b ks (omega (arith, f.0)) f.1

pub without_ready : {gs : List GivenToken} {n : ℕ} {ks : List Candidate} {ls : List Level} {p : Place} → Ready gs n ks ls p → Ready gs n (set_key Absent ks) ls p
without_ready {gs} {n} {ks} r =
    let e = length-drop 1 ks in
    record { counted = r.counted; levelled = omega arith; known = (tt, known_drop gs ks r.known); ordered = fall_drop n ks r.ordered; no_nul = r.no_nul }

-- or with it set to what it was
pub same_ready : {gs : List GivenToken} {n : ℕ} {ls : List Level} {p : Place} (ks : List Candidate) → Ready gs n ks ls p → Ready gs n (set_key (top_key ks) ks) ls p
unfolding top_key
same_ready [] r = let e = r.levelled in absurd (omega arith)
same_ready (k ∷ ks) r = r

-- what a candidate on top says of the others
abbrev pub Tops : List GivenToken → List Candidate → Candidate → Type 0
Tops gs ks Absent = Unit {0}
Tops gs ks (Possible required n k) = Free gs n k × Fall n (drop 1 ks)

pub top_tops : (gs : List GivenToken) (b : ℕ) (ks : List Candidate) → AllKnown gs ks → Fall b ks → Tops gs ks (top_key ks)
unfolding top_key
top_tops gs b [] h f = tt
top_tops gs b (Absent ∷ ks) h f = tt
top_tops gs b (Possible required n k ∷ ks) h f = (h.0, f.1)
