use Rattle.ac_book.proofs.Ending.{nearer}
use Rattle.ac_book.proofs.book.Book.finish.Goals as goal

pub loop-task-smaller : goal.loop-task-smaller
loop-task-smaller c = nearer c.loop-task.self c.turn.new.self c.in-Some.task c.turn.ensures.history (c.in-Some.ensures.able.1)
