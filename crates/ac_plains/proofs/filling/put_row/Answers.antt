use Rattle.ac_plains.proofs.filling.put_row.Goals as goal

pub make_call-requires-clause-known : goal.make_call-requires-clause-known
make_call-requires-clause-known c = c.in_ok-put_arguments.ensures.known c.args.objects.now
