mod Worded
mod Substituting
mod Keeping
