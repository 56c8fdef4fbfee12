use Rattle.commands.proofs.Ending.{generated_shop, gen_stopped}
use Rattle.commands.proofs.generating.run_gen.Goals as goal

pub returns-in-Ok : goal.returns-in-Ok
returns-in-Ok g c = generated_shop c.args.shop c.in-Ok.ended (g.D.Desk.state c.args.desk.now) (g.D.Desk.state c.print_shop.new.desk) c.in-Ok.ensures

pub returns-in-Err : goal.returns-in-Err
returns-in-Err g c = gen_stopped c.args.shop c.in-Err.stop c.end_stopped.result (g.D.Desk.state c.args.desk.now) (g.D.Desk.state c.print_shop.new.desk) (g.D.Desk.state c.end_stopped.new.desk)
    c.in-Err.ensures c.end_stopped.ensures
