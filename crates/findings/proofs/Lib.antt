mod Ending
mod Noted
mod Going
mod Both
