-- `run::run` meets its contract: the arguments that pass the tests are fit for the states, and a test that fails leaves all as
-- it was. Assumes nothing.
use Rattle.std.proofs.Common.{sym}
use Rattle.run.proofs.Passed.{rest_fit}
use Rattle.run.proofs.Outcomes.{refused_memory, refused_inputs, refused_outputs, refused_rest, done}
use Rattle.run.proofs.run.Goals as goal

pub returns-in_default : goal.returns-in_default
returns-in_default c = refused_memory _ _ _ _ _ _ _ _ c.in_default.ensures.cases c.refused.ensures

pub returns-in_default-as_array : goal.returns-in_default-as_array
returns-in_default-as_array c =
    let memory = c.in-Some.ensures.cases in
    refused_inputs _ _ _ _ _ _ _ _ _ memory.long memory.same c.in_default-as_array.ensures.cases
    c.refused-in_default-as_array.ensures

pub returns-in_default-as_mut_array : goal.returns-in_default-as_mut_array
returns-in_default-as_mut_array c =
    let memory = c.in-Some.ensures.cases in
    refused_outputs _ _ _ _ _ _ _ _ _ memory.long memory.same c.in-Some-as_array.ensures.cases.long
    c.in_default-as_mut_array.ensures.cases c.refused-in_default-as_mut_array.ensures

pub returns-in-Err : goal.returns-in-Err
returns-in-Err c =
    let memory = c.in-Some.ensures.cases in
    let outputs = c.in-Some-as_mut_array.ensures.cases in
    refused_rest _ _ _ _ _ _ _ _ _ _ _ memory.long memory.same c.in-Some-as_array.ensures.cases.long outputs.long outputs.same
    (sym c.in-Err.ensures) c.refused-in-Err.ensures

pub go-requires : goal.go-requires
go-requires c = rest_fit _ _ _ _ (sym c.in_default-check.ensures)

pub returns : goal.returns
returns c =
    let memory = c.in-Some.ensures.cases in
    let inputs = c.in-Some-as_array.ensures.cases in
    let outputs = c.in-Some-as_mut_array.ensures.cases in
    done _ _ _ _ _ _ _ _ _ _ _ _ _ _ _ memory.long memory.same inputs.long inputs.same outputs.long outputs.same
    (sym c.in_default-check.ensures) c.go.ensures c.answered.ensures
