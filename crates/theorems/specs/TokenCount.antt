-- How many tokens a run gives, against the characters that are left (for Tokens).
-- Two tokens are paid for each character. A candidate holds one more, for the Key that may go in before it; an open block holds its BlockEnd.
-- '-', '?' and ':' at level 0 may cost one more than they bring: the blank or break behind them pays it, or at the end the one that is left over.
use Rattle.std.specs.Prelude.{◌*◌, ◌+◌, ◌≤◌, suc, ℕ, Bool, false, true, List, [], ◌++◌, ◌∷◌, ◌≡◌, refl, drop, length}
use Rattle.std.proofs.Common.{arith}
use Rattle.yaml_text.specs.declared.Mark.{Mark}
use Rattle.yaml_text.specs.Utf8.{chars}
use Rattle.yaml_text.specs.Class.{is_blank_or_breakz, is_z}
use Rattle.yaml_text.specs.Mark.{Place, look, origin}
use Rattle.yaml_text.specs.Test.{by_pick}
use Rattle.yaml_text.specs.All.{All}
use Rattle.yaml_text.specs.DecodeLaws.{NoNul, no_nul_at}
use Rattle.yaml_text.specs.PlaceLaws.{fits_no_nul, left}
use Rattle.yaml_lexeme.specs.Token.{FlowMappingEnd, FlowMappingStart, StreamEnd, StreamStart, Token, empty_token}
use Rattle.yaml_lexeme.specs.Block.{one_if}
use Rattle.yaml_scan.specs.declared.Candidate.{Candidate}
use Rattle.yaml_scan.specs.declared.Candidate.TheVariants.{Absent, Possible}
use Rattle.yaml_scan.specs.declared.Limits.{Limits}
use Rattle.yaml_scan.specs.declared.Level.{Level}
use Rattle.yaml_scan.specs.Indent.{Indents, Rolled}
use Rattle.yaml_scan.specs.IndentLaws.{blocks_of, open_blocks, unroll_blocks}
use Rattle.yaml_scan.specs.Keys.{set_key, top_key}
use Rattle.yaml_scan.specs.State.{Event, News, State, allow, at_place, block_ends, empty_if, ends_with, goes_on, in_flow, mark_of, put, rest_of, save_key, unroll_to, with_keys}
use Rattle.yaml_scan.specs.Bracket.{implicit_open}
use Rattle.yaml_scan.specs.Document.{all_ends}
use Rattle.yaml_scan.specs.Scan.{begin, outcome, scanned, step, unrolled}
use Rattle.yaml_scan.specs.Moves.{Begins, Enters, Move, Moves, begins, block_start, closes, goes_in, leaves, opens, pair_end, parts, tells, uses}
use Rattle.yaml_scan.specs.Steps.{Gapped, Lapses, Takes, gapped, inside, lapses, one_most, stays, unrolled_state}
use Rattle.yaml_scan.proofs.Steps.{unrolled_blocks}
use Rattle.yaml_scan.specs.Slots.{tokens_of}
use Rattle.theorems.specs.Induction.{Leads, outcome_good, step_leads}
use Rattle.theorems.specs.Weigh.{sum, tokens_weigh, weigh, weigh_append, weigh_before, weigh_ends, weigh_if, weigh_last, weigh_one}

-- each token weighs 1
abbrev one : Token → ℕ
one t = 1

abbrev total : List Event → ℕ
total es = weigh one es

sum_length : (ts : List Token) → sum one ts ≡ length ts
unfolding sum
sum_length [] = refl
sum_length (t ∷ ts) = omega (arith, sum_length ts)

-- how many candidates are possible
unfoldable pub possible : List Candidate → ℕ
possible [] = 0
possible (Absent ∷ ks) = possible ks
possible (Possible required n m ∷ ks) = suc (possible ks)

possible_drop : (ks : List Candidate) → possible (drop 1 ks) ≤ possible ks
unfolding possible
possible_drop [] = omega arith
possible_drop (Absent ∷ ks) = omega arith
possible_drop (Possible required n m ∷ ks) = omega arith

possible_same : (ks : List Candidate) → possible (set_key (top_key ks) ks) ≤ possible ks
unfolding possible top_key
possible_same [] = omega arith
possible_same (k ∷ ks) = omega arith

possible_saved : (s : State) → possible (save_key s).keys ≤ 1 + possible s.keys
unfolding save_key possible
possible_saved s =
    by_pick (λ (u : State). possible u.keys ≤ 1 + possible s.keys) s.simple_key_allowed _ _
    (omega (arith, possible_drop s.keys)) (omega arith)

-- a candidate that is used up was possible
possible_used : (ks : List Candidate) {required : Bool} {n : ℕ} {m : Mark} → top_key ks ≡ Possible required n m → 1 + possible (drop 1 ks) ≡ possible ks
unfolding possible top_key
possible_used [] e = let z : ◌≡◌ {A = ℕ} 0 1 = cc in absurd (omega arith)
possible_used (Absent ∷ ks) e = let z : ◌≡◌ {A = ℕ} 0 1 = cc in absurd (omega arith)
possible_used (Possible required n m ∷ ks) e = omega arith

-- what a state can still pay, its StreamEnd and one more
abbrev funds : State → ℕ
funds s = 2 + 2 * left s.place + blocks_of s.indents + possible s.keys

abbrev pub Good : State → List Event → Type 0
Good s fs = NoNul (rest_of s) → total fs + one_if (is_blank_or_breakz (look s.place)) ≤ funds s

abbrev Ready : State → List Event → Type 0
Ready s fs = NoNul (rest_of s) → total fs + one_if (is_z (look s.place)) ≤ funds s

lapses_possible : {s : State} {m : Mark} {ks : List Candidate} → Lapses s m ks → possible ks ≤ possible s.keys
unfolding possible
lapses_possible (inside e) = omega arith
lapses_possible {s} (lapses e) = possible_drop s.keys
lapses_possible {s} (stays e h) = possible_same s.keys

gap_paid : (s t : State) (fs : List Event) → Gapped s t → Ready (unrolled_state t) fs → Good s (block_ends (unrolled t).ended (mark_of t) ++ fs)
gap_paid s t fs (gapped {p = p} {leads = b} {a = a} {ks = ks} f spares l) h n =
    let t' = with_keys ks (at_place p b (allow a s)) in
    omega (arith, h (fits_no_nul f n), spares n, lapses_possible l, unrolled_blocks t', weigh_append one (block_ends (unrolled t').ended (mark_of t')) fs, weigh_ends one (unrolled t').ended (mark_of t') 1 refl)

-- what a move costs

-- a start costs its end too: in flow only a pair begins, and at level 0 only a block, before blank, break or end
begins_most : {s : State} {q : Place} {pair : Bool} {r : Rolled} {ls : List Level} → Begins s q pair r ls
    → one_if pair + 2 * one_if r.starts ≤ 1 + one_if (is_blank_or_breakz (look q))
unfolding in_flow
begins_most {s} {q} {pair} {r} {ls} b = by_levels s.levels b.rolls.flows b.spaced b.enters
  where
    by_levels : (l : List Level) → (elim l [ [] ↦ false | x ∷ xs ↦ true ] ≡ true → r ≡ record { starts = false; indents = s.indents })
        → (elim l [ [] ↦ false | x ∷ xs ↦ true ] ≡ false → is_blank_or_breakz (look q) ≡ true) → Enters pair l ls
        → one_if pair + 2 * one_if r.starts ≤ 1 + one_if (is_blank_or_breakz (look q))
    by_levels [] f g e = rw (g refl, e.1) (omega (arith, one_most r.starts))
    by_levels (x ∷ xs) f g e = rw (f refl) (omega (arith, one_most pair))

-- the end of a pair, and a token
pair_end_cost : (s : State) (m : Mark) (t : Token) → total (pair_end m s ++ (put t ∷ [])) ≤ 2
pair_end_cost s m t =
    let b = implicit_open s.levels in
    omega (arith, weigh_last one (pair_end m s) t, weigh_if one b FlowMappingEnd m 1 refl, one_most b)

put_in : (pair block : Bool) (m : Mark) → sum one (goes_in pair block m) ≡ one_if pair + one_if block + 1
unfolding sum
put_in true true m = refl
put_in true false m = refl
put_in false true m = refl
put_in false false m = refl

move_cost : {s : State} {t : Token} {q : Place} {es : List Event} {i : Indents} {ks : List Candidate} {ls : List Level} → Move s t q es i ks ls
    → total es + blocks_of i + possible ks ≤ 2 + blocks_of s.indents + possible s.keys + one_if (is_blank_or_breakz (look q))
unfolding possible
move_cost {s} {t} (tells e same) = omega (arith, weigh_one one t, same.blocks, possible_saved s)
move_cost {s} {t} (leaves e f) =
    omega (
      arith,
      weigh_last one (all_ends s) t,
      weigh_ends one (unroll_to 0 s).ended (mark_of s) 1 refl,
      unroll_blocks 0 s.indents.indent s.indents.entries,
      possible_drop s.keys,
    )
move_cost {s} {t} (opens sequence e same) = omega (arith, weigh_one one t, same.blocks, possible_saved s)
move_cost {s} {t} (closes sequence m e c) = omega (arith, pair_end_cost s m t, possible_drop s.keys)
move_cost {s} {t} (parts m e) = omega (arith, pair_end_cost s m t, possible_drop s.keys)
move_cost {s} {t} (begins {pair = pair} {r = r} sequence m e b) =
    let f = empty_if pair FlowMappingStart m in
    let g = empty_if r.starts (block_start sequence) m in
    omega (
      arith,
      weigh_last one (f ++ g) t,
      weigh_append one f g,
      weigh_if one pair FlowMappingStart m 1 refl,
      weigh_if one r.starts (block_start sequence) m 1 refl,
      b.rolls.blocks,
      begins_most b,
      possible_drop s.keys,
    )
move_cost {s} {t} (uses {pair = pair} {n = n} {m = m} {r = r} e b k) =
    omega (
      arith,
      weigh_before one n (goes_in pair r.starts m) t,
      put_in pair r.starts m,
      b.rolls.blocks,
      begins_most b,
      possible_used s.keys k,
    )

move_paid : (s u : State) (es fs : List Event) → Moves s (goes_on es u) → Takes s (goes_on es u) → Good u fs → Ready s (es ++ fs)
move_paid s u es fs m k h n =
    let z : one_if (is_z (look s.place)) ≡ 0 = rw (no_nul_at (rest_of s) 0 n (omega (arith, k.0))) in
    omega (arith, h (fits_no_nul k.1 n), weigh_append one es fs, move_cost m.2, k.0)

end_paid : (s : State) (es : List Event) → Moves s (ends_with es) → Ready s es
end_paid s es m n =
    let e = (unroll_to 0 s).ended in
    let t = empty_token StreamEnd m.0 in
    rw m.2 (omega (arith, weigh_last one (block_ends e m.0) t, weigh_ends one e m.0 1 refl, unroll_blocks 0 s.indents.indent s.indents.entries, one_most (is_z (look s.place))))

-- of a step, whatever is said behind it
pub step_paid : (limits : Limits) (s : State) → All News (Leads Good s) (step limits s)
step_paid limits s = step_leads limits Good Ready gap_paid move_paid end_paid s

-- nothing is said any more
pub none_paid : (s : State) → Good s []
unfolding weigh
none_paid s n = omega (arith, one_most (is_blank_or_breakz (look s.place)))

-- from the first character on
pub begin_paid : (cs : List ℕ) (es : List Event) → NoNul cs → Good (begin cs) es → length (tokens_of (put (empty_token StreamStart origin) ∷ es)) ≤ 2 * length cs + 3
unfolding weigh possible open_blocks
begin_paid cs es n h =
    let fs = put (empty_token StreamStart origin) ∷ es in
    let k : total fs ≤ 2 * length cs + 3 = omega (arith, h n) in
    omega (arith, tokens_weigh one fs, sum_length (tokens_of fs))

-- of a whole scan
pub scan_tokens : (limits : Limits) (bytes : List ℕ) (es : List Event) → outcome limits bytes ≡ scanned es → length (tokens_of es) ≤ 2 * length (chars bytes) + 3
scan_tokens limits bytes es e =
    let r = outcome_good limits Good Ready gap_paid move_paid end_paid bytes es e in
    rw (r.whole, ← r.decodes.same) (begin_paid r.text r.further r.decodes.no_nul r.good)
