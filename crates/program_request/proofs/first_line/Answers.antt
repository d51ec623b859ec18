-- `program_request::first_line` meets its contract: each way out has its reason, as the line's four conditions do.
use Rattle.std.proofs.Common.{refl}
use Rattle.program_request.proofs.Lines.{without-space, with-one-space, without-method, without-tolerance, with-fields}
use Rattle.program_request.proofs.first_line.Goals as goal

pub returns-in_err-method_field : goal.returns-in_err-method_field
returns-in_err-method_field c = rw c.from_residual.ensures (without-space c.args.line.now c.in_err-method_field.ensures)

pub returns-in_err-tolerance_field : goal.returns-in_err-tolerance_field
returns-in_err-tolerance_field c =
    rw c.from_residual-in_err-tolerance_field.ensures
    (with-one-space c.args.line.now c.in_ok-method_field.ensures c.in_err-tolerance_field.ensures)

pub returns-in_err-method : goal.returns-in_err-method
returns-in_err-method c =
    rw c.from_residual-in_err-method.ensures (without-method c.args.line.now c.in_ok-method_field.ensures c.in_err-method.ensures)

pub returns-in_err-k : goal.returns-in_err-k
returns-in_err-k c =
    rw c.from_residual-in_err-k.ensures
    (without-tolerance c.args.line.now c.in_ok-method_field.ensures c.in_ok-tolerance_field.ensures c.in_err-k.ensures)

pub returns : goal.returns
returns c =
    with-fields c.args.line.now c.in_ok-method_field.ensures c.in_ok-tolerance_field.ensures
    (record { method = c.in_ok-method.method; k = c.in_ok-k.k; pattern = c.in_ok-tolerance_field.pattern })
    refl c.in_ok-method.ensures c.in_ok-k.ensures
