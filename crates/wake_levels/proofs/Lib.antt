mod Queueing
mod Eaching
