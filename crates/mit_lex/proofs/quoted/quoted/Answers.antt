use Rattle.std.proofs.Common.{◌≡◌, ◌+◌, List, ℕ, Option, IfOk, length, string_bytes, subst, sym, ap, ◌∙◌, arith}
use Rattle.mit_lex.proofs.QuoteFacts.{end_read, escape_boundary, escape_read, refusal_read, run_boundary, run_read}
use Rattle.mit_lex.specs.Pieces.{text_piece}
use Rattle.mit_lex.proofs.quoted.quoted.Goals as goal

pub split_at-requires : goal.split_at-requires
split_at-requires c =
    run_boundary c.loop-kept.left.now c.as_bytes.result.now c.plain_len.result c.as_bytes.ensures.value c.plain_len.ensures.value c.plain_len.ensures.within

pub returns-then-is_closed : goal.returns-then-is_closed
returns-then-is_closed c =
    let so_far = run_read c.args.text.now (string_bytes c.loop-kept.kept) c.loop-kept.left.now c.as_bytes.result.now c.split_at.result.0.now c.split_at.result.1.now
    (string_bytes c.push_str.new.self) c.loop-kept.size c.plain_len.result c.loop-kept.invariant.so_far c.as_bytes.ensures.value c.plain_len.ensures.value
    c.split_at.ensures.front c.split_at.ensures.back c.in_ok-push_str.ensures.bytes in
    let whole = end_read c.args.text.now (string_bytes c.push_str.new.self) c.split_at.result.1.now c.as_bytes-in-loop-kept.result.now c.as_str.result.now
    (c.loop-kept.size + length c.split_at.result.0.now) so_far c.as_bytes-in-loop-kept.ensures.value
    (sym c.is_closed.ensures ∙ c.if-is_closed.true) c.as_str.ensures.value in
    let P : Option (List ℕ × ℕ) → Type 0 = λ read. IfOk c.text_token.result (λ piece. piece ≡ text_piece read) in
    subst P whole c.text_token.ensures

pub returns-in_default : goal.returns-in_default
returns-in_default c =
    let so_far = run_read c.args.text.now (string_bytes c.loop-kept.kept) c.loop-kept.left.now c.as_bytes.result.now c.split_at.result.0.now c.split_at.result.1.now
    (string_bytes c.push_str.new.self) c.loop-kept.size c.plain_len.result c.loop-kept.invariant.so_far c.as_bytes.ensures.value c.plain_len.ensures.value
    c.split_at.ensures.front c.split_at.ensures.back c.in_ok-push_str.ensures.bytes in
    let none = refusal_read c.args.text.now (string_bytes c.push_str.new.self) c.loop-kept.left.now c.as_bytes.result.now c.split_at.result.1.now
    c.as_bytes-in-loop-kept.result.now c.as_bytes-in-loop-kept-2.result.now (c.loop-kept.size + length c.split_at.result.0.now) c.plain_len.result
    so_far c.as_bytes.ensures.value c.plain_len.ensures.value c.split_at.ensures.back
    c.as_bytes-in-loop-kept.ensures.value c.as_bytes-in-loop-kept-2.ensures.value
    (sym c.is_closed.ensures ∙ c.if-is_closed.false) (sym c.escape.ensures ∙ c.in_default.is) in
    sym (ap text_piece none)

pub range_from-left-requires : goal.range_from-left-requires
range_from-left-requires c _ =
    escape_boundary c.split_at.result.1.now c.as_bytes-in-loop-kept-2.result.now c.in-Some.meant c.as_bytes-in-loop-kept-2.ensures.value
    c.as_bytes-in-loop-kept-2.ensures.utf8 (sym c.escape.ensures ∙ c.in-Some.is)

pub loop-kept-preserved : goal.loop-kept-preserved
loop-kept-preserved c =
    let so_far = run_read c.args.text.now (string_bytes c.loop-kept.kept) c.loop-kept.left.now c.as_bytes.result.now c.split_at.result.0.now c.split_at.result.1.now
    (string_bytes c.push_str.new.self) c.loop-kept.size c.plain_len.result c.loop-kept.invariant.so_far c.as_bytes.ensures.value c.plain_len.ensures.value
    c.split_at.ensures.front c.split_at.ensures.back c.in_ok-push_str.ensures.bytes in
    record {
      so_far = escape_read c.args.text.now (string_bytes c.push_str.new.self) c.split_at.result.1.now c.as_bytes-in-loop-kept-2.result.now
          (string_bytes c.push.new.self) c.range_from-left.result.now (c.loop-kept.size + length c.split_at.result.0.now) c.in-Some.meant
          so_far c.as_bytes-in-loop-kept-2.ensures.value (sym c.escape.ensures ∙ c.in-Some.is)
          c.in_ok-push.ensures.bytes c.in_ok-push.ensures.ascii c.range_from-left.ensures.value;
      utf8 = c.range_from-left.utf8;
      whole = omega arith;
    }
