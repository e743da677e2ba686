-- A place behind the end has an empty line.
use Rattle.std.proofs.Common.{List, [], ap, arith, drop, drop_of_length-le, length, length-drop, ltb, ltb-false, ltb-true, min, take, take_all, ℕ, ◌+◌, ◌-◌, ◌∙◌, ◌≡◌}
use Rattle.yaml_text.specs.Test.{by_test}
use Rattle.vectors.specs.Line.{line_fits, line_length, line_prefix}
use Rattle.vectors.proofs.line_end.Goals as goal

rest_is : (s : List ℕ) (at m : ℕ) → m ≡ min at (length s) → take (length s - m) (drop m s) ≡ drop at s
rest_is s at m g =
    take_all (length s - m) (drop m s) (omega (arith, length-drop m s))
    ∙ by_test (ltb at (length s))
    (λ e. let h = ltb-true at (length s) e in let f : m ≡ at = omega arith in rw f)
    (λ e. let h = ltb-false at (length s) e in
    let f : m ≡ length s = omega arith in
    let p : drop (length s) s ≡ [] = drop_of_length-le s (omega arith) in
    let q : drop at s ≡ [] = drop_of_length-le s h in
    rw (f, p, q))

length_is : (c : goal.After-line_len) → c.line_len.result ≡ line_length (drop c.args.at c.args.s.now)
length_is c = c.line_len.ensures ∙ line_prefix _ ∙ ap line_length (rest_is c.args.s.now c.args.at c.min.result c.min.ensures)

pub overflow_add-result : goal.overflow_add-result
overflow_add-result c =
    let s = c.args.s.now in
    omega (arith, length_is c, line_fits (drop c.args.at s), length-drop c.args.at s)

pub returns : goal.returns
returns c =
    record {
      end = ap (λ n. c.args.at + n) (length_is c);
      within = λ h. omega (arith, length_is c, line_fits (drop c.args.at c.args.s.now), length-drop c.args.at c.args.s.now);
    }
