-- `fill` goes from step to step, and puts the first five words when all is read. Assumes nothing.
use native.Mathlib.Omega.{arith}
use mathlib.Core.List.{[]}
use Rattle.std.proofs.lemmas.Result.{err_from_is_err_and}
use Rattle.payloads.specs.Pass.{number_of}
use Rattle.payloads.proofs.LawsHeld.{source-short}
use Rattle.payloads.proofs.LawsPasses.{begins, room_for, strings-of, named-of, passed-of, strings-stop, producer-stop, types-stop, constants-stop, globals-stop, functions-stop, passes-stop, passes-got}
use Rattle.payloads.proofs.LawsWhole.{pass-held}
use Rattle.payloads.proofs.pass.fill.Goals as goal

pub fill_table-requires : goal.fill_table-requires
unfolding number_of
fill_table-requires c =
    let s = c.args.source in
    room_for s.file.now (begins [] []) (omega arith) (source-short s.file.now s.container.now s.read)

pub returns-in_err-strings : goal.returns-in_err-strings
unfolding number_of
returns-in_err-strings c =
    let s = c.args.source in
    let p = err_from_is_err_and c.from_residual.result c.from_residual.ensures.1 in
    let stopped = strings-of s.file.now s.container.now (c.in_err-strings.ensures 0) in
    rw (p.1, p.2) (pass-held s.file.now s.container.now s.read _ _ _ _ _ (passes-stop s.file.now s.container.now _ _ _ (strings-stop s.file.now s.container.now stopped)))

pub returns-in_err-producer : goal.returns-in_err-producer
unfolding number_of
returns-in_err-producer c =
    let s = c.args.source in
    let strings = strings-of s.file.now s.container.now (c.in_ok-strings.ensures 0) in
    let p = err_from_is_err_and c.from_residual-in_err-producer.result c.from_residual-in_err-producer.ensures.1 in
    let stopped = named-of s.file.now s.container.now strings (c.in_err-producer.ensures c.in_ok-strings.named _ _) in
    rw (p.1, p.2) (pass-held s.file.now s.container.now s.read _ _ _ _ _ (passes-stop s.file.now s.container.now _ _ _ (producer-stop s.file.now s.container.now stopped)))

pub fill_table-requires-2 : goal.fill_table-requires-2
unfolding number_of
fill_table-requires-2 c =
    let s = c.args.source in
    let strings = strings-of s.file.now s.container.now (c.in_ok-strings.ensures 0) in
    let named = named-of s.file.now s.container.now strings (c.in_ok-producer.ensures c.in_ok-strings.named _ _) in
    room_for s.file.now named (omega arith) (source-short s.file.now s.container.now s.read)

pub returns-in_err-types : goal.returns-in_err-types
unfolding number_of
returns-in_err-types c =
    let s = c.args.source in
    let strings = strings-of s.file.now s.container.now (c.in_ok-strings.ensures 0) in
    let named = named-of s.file.now s.container.now strings (c.in_ok-producer.ensures c.in_ok-strings.named _ _) in
    let p = err_from_is_err_and c.from_residual-in_err-types.result c.from_residual-in_err-types.ensures.1 in
    let stopped = (c.in_err-types.ensures _).on _ _ _ named in
    rw (p.1, p.2) (pass-held s.file.now s.container.now s.read _ _ _ _ _ (passes-stop s.file.now s.container.now _ _ _ (types-stop s.file.now s.container.now stopped)))

pub fill_table-requires-3 : goal.fill_table-requires-3
unfolding number_of
fill_table-requires-3 c =
    let s = c.args.source in
    let strings = strings-of s.file.now s.container.now (c.in_ok-strings.ensures 0) in
    let named = named-of s.file.now s.container.now strings (c.in_ok-producer.ensures c.in_ok-strings.named _ _) in
    let types = (c.in_ok-types.ensures _).on _ _ _ named in
    room_for s.file.now types (omega arith) (source-short s.file.now s.container.now s.read)

pub returns-in_err-constants : goal.returns-in_err-constants
unfolding number_of
returns-in_err-constants c =
    let s = c.args.source in
    let strings = strings-of s.file.now s.container.now (c.in_ok-strings.ensures 0) in
    let named = named-of s.file.now s.container.now strings (c.in_ok-producer.ensures c.in_ok-strings.named _ _) in
    let types = (c.in_ok-types.ensures _).on _ _ _ named in
    let p = err_from_is_err_and c.from_residual-in_err-constants.result c.from_residual-in_err-constants.ensures.1 in
    let stopped = (c.in_err-constants.ensures _).on _ _ _ types in
    rw (p.1, p.2) (pass-held s.file.now s.container.now s.read _ _ _ _ _ (passes-stop s.file.now s.container.now _ _ _ (constants-stop s.file.now s.container.now stopped)))

pub fill_table-requires-4 : goal.fill_table-requires-4
unfolding number_of
fill_table-requires-4 c =
    let s = c.args.source in
    let strings = strings-of s.file.now s.container.now (c.in_ok-strings.ensures 0) in
    let named = named-of s.file.now s.container.now strings (c.in_ok-producer.ensures c.in_ok-strings.named _ _) in
    let types = (c.in_ok-types.ensures _).on _ _ _ named in
    let constants = (c.in_ok-constants.ensures _).on _ _ _ types in
    room_for s.file.now constants (omega arith) (source-short s.file.now s.container.now s.read)

pub returns-in_err-globals : goal.returns-in_err-globals
unfolding number_of
returns-in_err-globals c =
    let s = c.args.source in
    let strings = strings-of s.file.now s.container.now (c.in_ok-strings.ensures 0) in
    let named = named-of s.file.now s.container.now strings (c.in_ok-producer.ensures c.in_ok-strings.named _ _) in
    let types = (c.in_ok-types.ensures _).on _ _ _ named in
    let constants = (c.in_ok-constants.ensures _).on _ _ _ types in
    let p = err_from_is_err_and c.from_residual-in_err-globals.result c.from_residual-in_err-globals.ensures.1 in
    let stopped = (c.in_err-globals.ensures _).on _ _ _ constants in
    rw (p.1, p.2) (pass-held s.file.now s.container.now s.read _ _ _ _ _ (passes-stop s.file.now s.container.now _ _ _ (globals-stop s.file.now s.container.now stopped)))

pub fill_table-requires-5 : goal.fill_table-requires-5
unfolding number_of
fill_table-requires-5 c =
    let s = c.args.source in
    let strings = strings-of s.file.now s.container.now (c.in_ok-strings.ensures 0) in
    let named = named-of s.file.now s.container.now strings (c.in_ok-producer.ensures c.in_ok-strings.named _ _) in
    let types = (c.in_ok-types.ensures _).on _ _ _ named in
    let constants = (c.in_ok-constants.ensures _).on _ _ _ types in
    let globals = (c.in_ok-globals.ensures _).on _ _ _ constants in
    room_for s.file.now globals (omega arith) (source-short s.file.now s.container.now s.read)

pub returns-in_err-functions : goal.returns-in_err-functions
unfolding number_of
returns-in_err-functions c =
    let s = c.args.source in
    let strings = strings-of s.file.now s.container.now (c.in_ok-strings.ensures 0) in
    let named = named-of s.file.now s.container.now strings (c.in_ok-producer.ensures c.in_ok-strings.named _ _) in
    let types = (c.in_ok-types.ensures _).on _ _ _ named in
    let constants = (c.in_ok-constants.ensures _).on _ _ _ types in
    let globals = (c.in_ok-globals.ensures _).on _ _ _ constants in
    let p = err_from_is_err_and c.from_residual-in_err-functions.result c.from_residual-in_err-functions.ensures.1 in
    let stopped = (c.in_err-functions.ensures _).on _ _ _ globals in
    rw (p.1, p.2) (pass-held s.file.now s.container.now s.read _ _ _ _ _ (passes-stop s.file.now s.container.now _ _ _ (functions-stop s.file.now s.container.now stopped)))

pub fill_debug-requires : goal.fill_debug-requires
unfolding number_of
fill_debug-requires c =
    let s = c.args.source in
    let strings = strings-of s.file.now s.container.now (c.in_ok-strings.ensures 0) in
    let named = named-of s.file.now s.container.now strings (c.in_ok-producer.ensures c.in_ok-strings.named _ _) in
    let types = (c.in_ok-types.ensures _).on _ _ _ named in
    let constants = (c.in_ok-constants.ensures _).on _ _ _ types in
    let globals = (c.in_ok-globals.ensures _).on _ _ _ constants in
    let functions = (c.in_ok-functions.ensures _).on _ _ _ globals in
    room_for s.file.now functions (omega arith) (source-short s.file.now s.container.now s.read)

pub returns-in_err-end : goal.returns-in_err-end
unfolding number_of
returns-in_err-end c =
    let s = c.args.source in
    let strings = strings-of s.file.now s.container.now (c.in_ok-strings.ensures 0) in
    let named = named-of s.file.now s.container.now strings (c.in_ok-producer.ensures c.in_ok-strings.named _ _) in
    let types = (c.in_ok-types.ensures _).on _ _ _ named in
    let constants = (c.in_ok-constants.ensures _).on _ _ _ types in
    let globals = (c.in_ok-globals.ensures _).on _ _ _ constants in
    let functions = (c.in_ok-functions.ensures _).on _ _ _ globals in
    let p = err_from_is_err_and c.from_residual-in_err-end.result c.from_residual-in_err-end.ensures.1 in
    rw (p.1, p.2) (pass-held s.file.now s.container.now s.read _ _ _ _ _ (passes-stop s.file.now s.container.now _ _ _ (passed-of s.file.now s.container.now functions (c.in_err-end.ensures _ _))))

pub returns : goal.returns
unfolding number_of
returns c =
    let s = c.args.source in
    let strings = strings-of s.file.now s.container.now (c.in_ok-strings.ensures 0) in
    let named = named-of s.file.now s.container.now strings (c.in_ok-producer.ensures c.in_ok-strings.named _ _) in
    let types = (c.in_ok-types.ensures _).on _ _ _ named in
    let constants = (c.in_ok-constants.ensures _).on _ _ _ types in
    let globals = (c.in_ok-globals.ensures _).on _ _ _ constants in
    let functions = (c.in_ok-functions.ensures _).on _ _ _ globals in
    let end = passed-of s.file.now s.container.now functions (c.in_ok-end.ensures _ _) in
    pass-held s.file.now s.container.now s.read _ _ _ _ _ (passes-got s.file.now s.container.now _ _ _ _ end named c.put_head.ensures)
