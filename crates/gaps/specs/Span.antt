-- A run of characters: the place behind it, and the bytes that it was read from, which are its text.
use Rattle.std.specs.Prelude.{◌+◌, ◌-◌, ℕ, List, ◌++◌, ◌≡◌, drop, take}
use Rattle.std.proofs.Common.{append_assoc, append-nil, ◌∙◌, ap, sym, arith, drop-drop, take-add}
use Rattle.yaml_text.specs.Mark.{Run, along_by, before_run, nothing_at}
use Rattle.yaml_text.specs.Utf8.{chars, encode}
use Rattle.yaml_text.specs.Utf8Laws.{encode_append}
use Rattle.yaml_text.proofs.Utf8Laws.{first_bytes}
use Rattle.chars.specs.declared.mark.Place.{Place}
use Rattle.chars.specs.Reach.{Reach, more, none, reach_within}
use Rattle.chars.specs.View.{Stands, past, view}
use Rattle.chars.specs.Parts.{Spans}
use Rattle.gaps.specs.Walk.{Walks, walks_along, walks_done, walks_start}

-- characters in a row encode to the bytes where they stand
pub reach_encode : {s : List ℕ} {at k end : ℕ} → Reach s at k end → encode (take k (chars (drop at s))) ≡ take (end - at) (drop at s)
unfolding encode
reach_encode {s} {at} none = let e : at - at ≡ 0 = omega arith in rw e
reach_encode {s} {at} {end = end} (more {c = c} {n = n} {k = k} x r) =
    let w = reach_within r x.within in
    let e : end - at ≡ n + (end - (at + n)) = omega (arith, w) in
    rw (x.next, e, take-add n (end - (at + n)) (drop at s), drop-drop n at s, (first_bytes (drop at s) c n x.is).0, reach_encode r)

-- a loop that reads the run `whole` began at `start` and stands at p, where `rest` is left of it
pub record Spanning (text : List ℕ) (start p : Place) (whole rest : Run) : Type 0 where
  pub walks : Walks text start p whole.place rest.place
  pub bytes : encode whole.text ≡ take (p.at - start.at) (drop start.at text) ++ encode rest.text

pub spans_start : {text : List ℕ} {p : Place} {x : Run} → Stands text p → Spanning text p p x x
spans_start {p = p} h = let e : p.at - p.at ≡ 0 = omega arith in record { walks = walks_start h; bytes = rw e }

-- over k characters of n bytes that are no breaks
pub spans_along : {text : List ℕ} {start p : Place} {x y z : Run} → Spanning text start p x y → (n k : ℕ) → Reach text p.at k (p.at + n)
    → y ≡ before_run (take k (chars (drop p.at text))) z → Spanning text start (past p n (along_by k p.mark)) x z
spans_along {text} {start} {p} {x} {y} {z} w n k r e =
    let t = take k (chars (drop p.at text)) in
    let o = w.walks.onward in
    let i : p.at + n - p.at ≡ n = omega arith in
    let j : p.at + n - start.at ≡ (p.at - start.at) + n = omega (arith, o) in
    let l : start.at + (p.at - start.at) ≡ p.at = omega (arith, o) in
    let b : encode t ≡ take n (drop p.at text) = rw (← i) (reach_encode r) in
    record {
      walks = walks_along w.walks n k r (ap (λ (d : Run). d.place) e);
      bytes = w.bytes
          ∙ rw (e, encode_append t z.text, b, j, take-add (p.at - start.at) n (drop start.at text), drop-drop (p.at - start.at) start.at text, l)
          (sym (append_assoc (take (p.at - start.at) (drop start.at text)) (take n (drop p.at text)) (encode z.text)));
    }

-- where nothing is left of it
pub spans_done : {text : List ℕ} {start p : Place} {x y : Run} → Spanning text start p x y → y ≡ nothing_at (view text p) → Spans text start p x
unfolding encode
spans_done {text} {start} {p} w e =
    record { moves = walks_done w.walks (ap (λ (d : Run). d.place) e); bytes = w.bytes ∙ rw (e, append-nil (take (p.at - start.at) (drop start.at text))) }
