use Rattle.inline_finish.proofs.Naming.{found_own, found_other}
use Rattle.inline_finish.proofs.targets.target.Goals as goal

pub returns-then-piece-found : goal.returns-then-piece-found
returns-then-piece-found c = found_own c.args.«module».now c.args.piece.now c.args.func c.in-Some.found c.args.own.now.function c.args.callee.now.name c.requires.there c.requires.pieces c.in-Some.ensures.cases.0 c.in-Some.ensures.cases.1 c.if-piece-found.true

pub returns-else-piece-found : goal.returns-else-piece-found
returns-else-piece-found c = found_other c.args.«module».now c.args.piece.now c.args.func c.in-Some.found c.args.own.now.function c.args.callee.now.name c.requires.there c.requires.pieces c.in-Some.ensures.cases.0 c.in-Some.ensures.cases.1 c.if-piece-found.false c.in-Some.ensures.place
