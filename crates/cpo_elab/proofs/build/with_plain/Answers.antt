use Rattle.cpo_elab.proofs.judging.Stepped.{can_define, fresh_name, own_name, small_amounts, no_signs, few_rows, can_constrain, can_write}
use Rattle.cpo_elab.proofs.judging.Written.{plain_constraint}
use Rattle.cpo_elab.proofs.build.with_plain.Goals as goal

pub define-requires-clause-valid : goal.define-requires-clause-valid
define-requires-clause-valid c = can_define c.args.draft c.args.s.now c.in-Define.name _ c.in-Define.d c.in-Define.is c.as_slice.ensures c.requires.valid c.requires.shaped c.requires.clear

pub define-requires-clause-fresh : goal.define-requires-clause-fresh
define-requires-clause-fresh c = fresh_name c.args.draft c.args.s.now c.in-Define.name _ c.in-Define.d c.in-Define.is c.as_slice.ensures c.requires.valid c.requires.clear

pub define-requires-clause-large : goal.define-requires-clause-large
define-requires-clause-large c = small_amounts c.args.draft c.args.s.now c.in-Define.name _ c.in-Define.d c.in-Define.is c.as_slice.ensures c.requires.valid c.requires.clear

pub define-requires-clause-negative : goal.define-requires-clause-negative
define-requires-clause-negative c = no_signs c.args.draft c.args.s.now c.in-Define.name _ c.in-Define.d c.in-Define.is c.as_slice.ensures c.requires.valid c.requires.clear

pub define-requires-clause-rows : goal.define-requires-clause-rows
define-requires-clause-rows c = few_rows c.args.draft c.args.s.now c.in-Define.name _ c.in-Define.d c.in-Define.is c.as_slice.ensures c.requires.valid c.requires.clear

pub constrain-requires-clause-written : goal.constrain-requires-clause-written
constrain-requires-clause-written c = can_write c.args.draft c.args.s.now c.in-Constrain.c c.in-Constrain.is c.requires.valid c.requires.clear

pub constrain-requires-clause-valid : goal.constrain-requires-clause-valid
constrain-requires-clause-valid c = can_constrain c.args.draft c.args.s.now c.in-Constrain.c c.in-Constrain.is c.requires.valid c.requires.shaped c.requires.clear

pub define-requires-clause-own : goal.define-requires-clause-own
define-requires-clause-own c = own_name c.args.s.now c.in-Define.name _ c.in-Define.d c.in-Define.is c.as_slice.ensures c.requires.own

pub constrain-requires-clause-plain : goal.constrain-requires-clause-plain
constrain-requires-clause-plain c = plain_constraint c.args.s.now c.in-Constrain.c c.in-Constrain.is c.requires.plain
