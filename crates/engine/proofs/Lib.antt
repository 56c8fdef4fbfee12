mod Noting
mod Waking
mod Turning
mod Leading
mod Settled
mod Counting
