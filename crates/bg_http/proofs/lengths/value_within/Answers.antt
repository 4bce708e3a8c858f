use Rattle.std.proofs.Common.{◌≡◌, ℕ, ◌+◌, ◌<◌, ◌∙◌, List, length, take, None, arith}
use Rattle.std.specs.Str.Parse.{digits_value}
use Rattle.std.proofs.lemmas.Str.Parse.{digits_value-take-le}
use Rattle.std.proofs.lemmas.Bool.Decides.{nat_tests}
use Rattle.bg_http.specs.Lengths.{number_within}
use Rattle.bg_http.proofs.Digits.{next_number}
use Rattle.bg_http.proofs.lengths.value_within.Goals as goal

-- where the first digits are above `most`, all are
above : (most : ℕ) (digits : List ℕ) (i : ℕ) → i < length digits → most < digits_value 10 (take (i + 1) digits)
    → None ≡ number_within most digits
above most digits i inside over =
    let front = digits_value-take-le 10 digits (i + 1) (omega (arith, inside)) in
    let all : most < digits_value 10 digits = omega (arith, front, over) in
    grind (arith, nat_tests)

pub returns-in_err-checked_mul : goal.returns-in_err-checked_mul
returns-in_err-checked_mul c =
    let next = next_number c.args.digits.now c.loop-digit.digit-index c.loop-digit.number c.from-value.result c.loop-digit-test.true c.requires c.loop-digit.invariant.0 c.from-value.ensures in
    c.from_residual.ensures ∙ above c.args.most c.args.digits.now c.loop-digit.digit-index c.loop-digit-test.true (omega (arith, next, c.in_err-checked_mul.ensures))

pub returns-in_err-number : goal.returns-in_err-number
returns-in_err-number c =
    let next = next_number c.args.digits.now c.loop-digit.digit-index c.loop-digit.number c.from-value.result c.loop-digit-test.true c.requires c.loop-digit.invariant.0 c.from-value.ensures in
    c.from_residual-in_err-number.ensures ∙ above c.args.most c.args.digits.now c.loop-digit.digit-index c.loop-digit-test.true (omega (arith, next, c.in_err-number.ensures, c.in_ok-checked_mul.ensures.1))

pub returns-then-number-most : goal.returns-then-number-most
returns-then-number-most c =
    let next = next_number c.args.digits.now c.loop-digit.digit-index c.loop-digit.number c.from-value.result c.loop-digit-test.true c.requires c.loop-digit.invariant.0 c.from-value.ensures in
    above c.args.most c.args.digits.now c.loop-digit.digit-index c.loop-digit-test.true (omega (arith, next, c.in_ok-number.ensures.1, c.in_ok-checked_mul.ensures.1, c.if-number-most.true))

pub loop-digit-preserved : goal.loop-digit-preserved
loop-digit-preserved c =
    let next = next_number c.args.digits.now c.loop-digit.digit-index c.loop-digit.number c.from-value.result c.loop-digit-test.true c.requires c.loop-digit.invariant.0 c.from-value.ensures in
    (omega (arith, next, c.in_ok-number.ensures.1, c.in_ok-checked_mul.ensures.1), c.if-number-most.false)
