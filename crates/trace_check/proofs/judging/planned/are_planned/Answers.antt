use Rattle.std.proofs.Common.{sym, ap, ◌∙◌, length}
use Rattle.trace_check.proofs.Groups.{groups_length, planned_from_groups, groups_from_planned}
use Rattle.trace_check.proofs.judging.planned.are_planned.Goals as goal

pub are_calls_of_each-requires : goal.are_calls_of_each-requires
are_calls_of_each-requires c = c.requires.plan ∙ sym (ap length c.requires.groups ∙ groups_length c.args.settings.now.clients c.args.entries.now)

pub returns-then-are_of_clients : goal.returns-then-are_of_clients
returns-then-are_of_clients c =
    let settings = c.args.settings.now in
    let plan = c.args.plan.now in
    let entries = c.args.entries.now in
    let groups = c.args.groups.now in
    let all = c.are_of_clients.ensures.0 c.if-are_of_clients.true in (
      λ t. planned_from_groups settings plan entries groups c.requires.groups all (c.are_calls_of_each.ensures.0 t),
      λ h. c.are_calls_of_each.ensures.1 (groups_from_planned settings plan entries groups c.requires.groups h),
    )
