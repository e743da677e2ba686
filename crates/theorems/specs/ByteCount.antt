-- How many decoded bytes a run gives, against the bytes that are left: what each reader decodes is paid by what it takes (for Bytes).
use Rattle.std.specs.Prelude.{◌*◌, ◌≤◌, ℕ, Bool, false, true, List, [], ◌++◌, ◌∷◌, ◌≡◌, refl, length}
use Rattle.std.proofs.Common.{ap, arith, length-append}
use Rattle.yaml_text.specs.declared.Mark.{Mark}
use Rattle.yaml_text.specs.Mark.{Place}
use Rattle.yaml_text.specs.Test.{by_pick}
use Rattle.yaml_lexeme.specs.Token.{FlowMappingEnd, FlowMappingStart, Kind, StreamEnd, Token, empty_token, kind_bytes, size, texts, token_bytes}
use Rattle.yaml_lexeme.specs.Sizes.{size_fits}
use Rattle.yaml_scan.specs.declared.Candidate.{Candidate}
use Rattle.yaml_scan.specs.declared.Level.{Level}
use Rattle.yaml_scan.specs.declared.Limits.{Limits}
use Rattle.yaml_scan.specs.Indent.{Indents}
use Rattle.yaml_scan.specs.State.{Event, State, block_ends, empty_if, ends_with, goes_on, mark_of, put, rest_of, unroll_to}
use Rattle.yaml_scan.specs.Bracket.{implicit_open}
use Rattle.yaml_scan.specs.Document.{all_ends}
use Rattle.yaml_scan.specs.Scan.{outcome, scanned, unrolled}
use Rattle.yaml_scan.specs.Moves.{Move, Moves, begins, block_start, closes, goes_in, leaves, opens, pair_end, parts, tells, uses}
use Rattle.yaml_scan.specs.Steps.{Gapped, Takes, gapped, unrolled_state}
use Rattle.yaml_scan.specs.Slots.{tokens_of}
use Rattle.theorems.specs.Induction.{outcome_good}
use Rattle.theorems.specs.Weigh.{sum, tokens_weigh, weigh, weigh_append, weigh_before, weigh_ends, weigh_if, weigh_last, weigh_one}

-- each token weighs its decoded bytes
abbrev bytes_of : Token → ℕ
bytes_of t = length (token_bytes t)

abbrev said : List Event → ℕ
said es = weigh bytes_of es

sum_texts : (ts : List Token) → sum bytes_of ts ≡ length (texts ts)
unfolding sum texts
sum_texts [] = refl
sum_texts (t ∷ ts) = omega (arith, sum_texts ts, length-append (token_bytes t) (texts ts))

-- starts and ends have no texts, so a move says the bytes of its token

empty_if_says : (b : Bool) (k : Kind) (m : Mark) → kind_bytes k ≡ [] → said (empty_if b k m) ≡ 0
empty_if_says b k m e = omega (arith, weigh_if bytes_of b k m 0 (rw e))

block_silent : (sequence : Bool) → kind_bytes (block_start sequence) ≡ []
unfolding kind_bytes
block_silent sequence = by_pick (λ (k : Kind). kind_bytes k ≡ []) sequence _ _ refl refl

put_in : (pair block : Bool) (m : Mark) → sum bytes_of (goes_in pair block m) ≡ 0
unfolding sum kind_bytes
put_in true true m = refl
put_in true false m = refl
put_in false true m = refl
put_in false false m = refl

ends_say : (n : ℕ) (m : Mark) → said (block_ends n m) ≡ 0
unfolding kind_bytes
ends_say n m = omega (arith, weigh_ends bytes_of n m 0 refl)

pair_end_says : (s : State) (m : Mark) (t : Token) → said (pair_end m s ++ (put t ∷ [])) ≡ bytes_of t
unfolding kind_bytes
pair_end_says s m t = omega (arith, weigh_last bytes_of (pair_end m s) t, empty_if_says (implicit_open s.levels) FlowMappingEnd m refl)

move_says : {s : State} {t : Token} {q : Place} {es : List Event} {i : Indents} {ks : List Candidate} {ls : List Level} → Move s t q es i ks ls → said es ≡ bytes_of t
unfolding kind_bytes
move_says {t = t} (tells e same) = weigh_one bytes_of t
move_says {s} {t} (leaves e f) = omega (arith, weigh_last bytes_of (all_ends s) t, ends_say (unroll_to 0 s).ended (mark_of s))
move_says {t = t} (opens sequence e same) = weigh_one bytes_of t
move_says {s} {t} (closes sequence m e c) = pair_end_says s m t
move_says {s} {t} (parts m e) = pair_end_says s m t
move_says {t = t} (begins {pair = pair} {r = r} sequence m e b) =
    let f = empty_if pair FlowMappingStart m in
    let g = empty_if r.starts (block_start sequence) m in
    omega (arith, weigh_last bytes_of (f ++ g) t, weigh_append bytes_of f g, empty_if_says pair FlowMappingStart m refl, empty_if_says r.starts (block_start sequence) m (block_silent sequence))
move_says {t = t} (uses {pair = pair} {n = n} {m = m} {r = r} e b k) =
    omega (arith, weigh_before bytes_of n (goes_in pair r.starts m) t, put_in pair r.starts m)

-- what a run says is paid by what is left
abbrev Good : State → List Event → Type 0
Good s fs = 2 * said fs ≤ 3 * size (rest_of s)

gap_paid : (s t : State) (fs : List Event) → Gapped s t → Good (unrolled_state t) fs → Good s (block_ends (unrolled t).ended (mark_of t) ++ fs)
gap_paid s t fs (gapped f spares l) h = let m = mark_of t in let n = (unrolled t).ended in omega (arith, h, size_fits f, weigh_append bytes_of (block_ends n m) fs, ends_say n m)

move_paid : (s u : State) (es fs : List Event) → Moves s (goes_on es u) → Takes s (goes_on es u) → Good u fs → Good s (es ++ fs)
move_paid s u es fs m k h = omega (arith, h, m.1, move_says m.2, weigh_append bytes_of es fs)

end_paid : (s : State) (es : List Event) → Moves s (ends_with es) → Good s es
unfolding kind_bytes
end_paid s es m =
    let e = (unroll_to 0 s).ended in
    let t = empty_token StreamEnd m.0 in
    rw m.2 (omega (arith, weigh_last bytes_of (block_ends e m.0) t, ends_say e m.0))

-- of a whole scan
pub scan_bytes : (limits : Limits) (bytes : List ℕ) (es : List Event) → outcome limits bytes ≡ scanned es → 2 * length (texts (tokens_of es)) ≤ 3 * length bytes
unfolding weigh kind_bytes
scan_bytes limits bytes es e =
    let r = outcome_good limits Good Good gap_paid move_paid end_paid bytes es e in
    let b : size r.text ≡ length bytes = ap length r.decodes.bytes in
    let k : 2 * said es ≤ 3 * length bytes = rw r.whole (omega (arith, r.good)) in
    omega (arith, tokens_weigh bytes_of es, sum_texts (tokens_of es))
